-- Positions that name their worlds and answers by places.
use Rattle.std.proofs.Common.{◌≡◌, ◌∙◌, ◌<◌, ◌≤◌, ◌++◌, ◌⊎◌, ℕ, true, false, List, [], ◌∷◌, Option, None, Some, IfSome, zero, suc, length, replicate, slice_set, refl, ap, sym, subst, inl, inr, arith}
use Rattle.std.specs.List.{slice_get}
use Rattle.std.specs.Option.{option_map}
use Rattle.std.proofs.lemmas.List.{length-map, map-set}
use Rattle.std.proofs.lemmas.Option.{slice_get_within, slice_get-map}
use Rattle.posix_model.specs.Types.{Outcome, Bounds}
use Rattle.posix_model.specs.declared.world.World.{World}
use Rattle.race_outcomes.specs.declared.lanes.Lane.{Lane}
use Rattle.race_outcomes.specs.declared.position.Going.{Going}
use Rattle.race_outcomes.specs.declared.position.Position.{Position}
use Rattle.race_outcomes.specs.declared.positions.Met.{Met}
use Rattle.race_outcomes.specs.declared.positions.Move.{Move}
use Rattle.race_outcomes.specs.declared.positions.Spot.{Spot}
use Rattle.race_outcomes.specs.declared.search.Onward.{Onward}
use Rattle.race_outcomes.specs.declared.search.Search.{Search}
use Rattle.race_outcomes.specs.declared.search.Turn.{Turn}
use Rattle.race_outcomes.specs.declared.search.Way.{Way}
use Rattle.race_outcomes.specs.Moves.{answered, move, moved}
use Rattle.race_outcomes.specs.Positions.{or_empty, or_none, told_at, position_of, met_of, positions}
use Rattle.race_outcomes.specs.Tables.{StandsAt}
use Rattle.race_outcomes.specs.Orders.{MoreOrders}
use Rattle.race_outcomes.specs.Proved.Search.{Searched, TakesIn, TakesMove}
use Rattle.race_outcomes.specs.Proved.Spots.{met_in, Extends, Places, IsWithin, led, LeadsBy, GoesOn, IsWay, IsKept, Names, LearnsWay, FindsWay, GoesTo, Moves, TakesSpot}
use Rattle.race_outcomes.proofs.SearchLemmas.{more_orders, no_move, one_move}
use Rattle.race_outcomes.proofs.PlaceLemmas.{get_front, get_last, kept_in, in_push, same_some, some_there, none_some}

-- ---- lists that grow

nothing_more : {X : Type 0} (xs : List X) → xs ++ [] ≡ xs
nothing_more [] = refl
nothing_more (x ∷ xs) = ap (λ ys. x ∷ ys) (nothing_more xs)

pub stays : {X : Type 0} (old new : List X) → new ≡ old → Extends old new
stays old new same = ([], same ∙ sym (nothing_more old))

pub stands_still : {X : Type 0} (old new : List X) → Extends old new → (k : ℕ) (x : X) → slice_get old k ≡ Some x → slice_get new k ≡ Some x
stands_still old new more k x at = subst (λ xs. slice_get xs k ≡ Some x) (sym more.1) (kept_in old more.0 k x at)

pub same_place : {X : Type 0} (old new : List X) → Extends old new → (k : ℕ) → k < length old → slice_get new k ≡ slice_get old k
same_place old new more k within = ap (λ xs. slice_get xs k) more.1 ∙ get_front old more.0 k within

pub within_still : {X : Type 0} (old new : List X) → Extends old new → (k : ℕ) → k < length old → k < length new
within_still old new more k within = let here : (x : _) × (slice_get old k ≡ Some x) = some_there old k within in
    slice_get_within new k here.0 (stands_still old new more k here.0 here.1)

-- a value that has its place in a table stands there
pub placed_there : {X : Type 0} (old new : List X) (x : X) (place : ℕ) → Places (λ y. y) old new x place → slice_get new place ≡ Some x
placed_there old new x place placed = elim placed [
  | inl found ↦ subst (λ xs. slice_get xs place ≡ Some x) (sym found.0) (subst (λ y. slice_get old place ≡ Some y) found.1.is found.1.stands)
  | inr last ↦ subst (λ xs. slice_get xs place ≡ Some x) (sym last.0) (subst (λ k. slice_get (old ++ x ∷ []) k ≡ Some x) (sym last.1) (get_last old x))
]

pub placed_more : {X : Type 0} (old new : List X) (x : X) (place : ℕ) → Places (λ y. y) old new x place → Extends old new
placed_more old new x place placed = elim placed [
  | inl found ↦ stays old new found.0
  | inr last ↦ (x ∷ [], last.0)
]

-- ---- positions whose places are there

rows_still : (old new : List (List Outcome)) → Extends old new → (places : List ℕ) → ((k row : ℕ) → slice_get places k ≡ Some row → row < length old) →
    told_at new places ≡ told_at old places
rows_still old new more [] within = refl
rows_still old new more (p ∷ ps) within =
    ap (λ row. or_none row ∷ told_at new ps) (same_place old new more p (within zero p refl))
    ∙ ap (λ rest. or_none (slice_get old p) ∷ rest) (rows_still old new more ps (λ k row at. within (suc k) row at))

pub position_still : (worlds worlds2 : List World) (rows rows2 : List (List Outcome)) (spot : Spot) → Extends worlds worlds2 → Extends rows rows2 →
    IsWithin worlds rows spot → position_of worlds2 rows2 spot ≡ position_of worlds rows spot
position_still worlds worlds2 rows rows2 spot more_worlds more_rows within =
    ap (λ w. record { world = or_empty w; told = told_at rows2 spot.rows }) (same_place worlds worlds2 more_worlds spot.world within.in_worlds)
    ∙ ap (λ told. record { world = or_empty (slice_get worlds spot.world); told = told }) (rows_still rows rows2 more_rows spot.rows within.in_rows)

pub spot_still : (worlds worlds2 : List World) (rows rows2 : List (List Outcome)) (spot : Spot) → Extends worlds worlds2 → Extends rows rows2 →
    IsWithin worlds rows spot → IsWithin worlds2 rows2 spot
spot_still worlds worlds2 rows rows2 spot more_worlds more_rows within = record {
  in_worlds = within_still worlds worlds2 more_worlds spot.world within.in_worlds;
  in_rows = λ k row at. within_still rows rows2 more_rows row (within.in_rows k row at);
}

pub positions_still : (worlds worlds2 : List World) (rows rows2 : List (List Outcome)) → Extends worlds worlds2 → Extends rows rows2 → (met : List (Met Spot)) →
    ((k : ℕ) (m : Met Spot) → slice_get met k ≡ Some m → IsWithin worlds rows m.position) → positions worlds2 rows2 met ≡ positions worlds rows met
positions_still worlds worlds2 rows rows2 more_worlds more_rows [] within = refl
positions_still worlds worlds2 rows rows2 more_worlds more_rows (m ∷ ms) within =
    ap (λ p. record { position = p; by = m.by } ∷ positions worlds2 rows2 ms) (position_still worlds worlds2 rows rows2 m.position more_worlds more_rows
    (within zero m refl))
    ∙ ap (λ rest. met_of worlds rows m ∷ rest) (positions_still worlds worlds2 rows rows2 more_worlds more_rows ms (λ k x at. within (suc k) x at))

-- ---- ways

way_still : (bounds : Bounds) (lanes : List Lane) (old new : List World) (way : Way) → Extends old new → IsWay bounds lanes old way → IsWay bounds lanes new way
way_still bounds lanes old new way more is = record {
  within = within_still old new more way.turn.world is.within;
  target = target_still old new more way.to is.target;
  leads = subst (λ w. LeadsBy bounds lanes w way.turn (λ told row. option_map (λ to. led new told way.turn.lane row to) way.to))
      (ap or_empty (sym (same_place old new more way.turn.world is.within)))
      (λ told row at long. is.leads told row at long ∙ sym (led_still old new more told way.turn.lane row way.to is.target));
} where
  target_still : (old new : List World) → Extends old new → (to : Option Onward) → IfSome to (λ o. o.world < length old) → IfSome to (λ o. o.world < length new)
  target_still old new more None target = target
  target_still old new more (Some o) target = within_still old new more o.world target

  led_still : (old new : List World) → Extends old new → (told : List (List Outcome)) (lane : ℕ) (row : List Outcome) (to : Option Onward) →
      IfSome to (λ o. o.world < length old) → option_map (λ o. led new told lane row o) to ≡ option_map (λ o. led old told lane row o) to
  led_still old new more told lane row None target = refl
  led_still old new more told lane row (Some o) target =
      ap (λ w. Some (record { world = or_empty w; told = slice_set told lane (answered o.resumes row o.outcome) })) (same_place old new more o.world target)

-- what an act leads to is what it comes to
named_leads : (old new : List World) (g : Going) (o : Onward) (told : List (List Outcome)) (lane : ℕ) (row : List Outcome) → o.resumes ≡ g.resumes →
    o.outcome ≡ g.outcome → slice_get new o.world ≡ Some g.world → moved told lane row g ≡ led new told lane row o
named_leads old new g o told lane row resumes outcome at =
    ap (λ w. record { world = or_empty w; told = slice_set told lane (answered g.resumes row g.outcome) }) (sym at)
    ∙ ap (λ r. record { world = or_empty (slice_get new o.world); told = slice_set told lane (answered r row g.outcome) }) (sym resumes)
    ∙ ap (λ x. record { world = or_empty (slice_get new o.world); told = slice_set told lane (answered o.resumes row x) }) (sym outcome)

names_more : (old new : List World) (going : Option Going) (to : Option Onward) → Names old new going to → Extends old new
names_more old new None to names = stays old new names.1
names_more old new (Some g) to names = placed_more old new g.world names.onward.world names.placed

names_target : (old new : List World) (going : Option Going) (to : Option Onward) → Names old new going to → IfSome to (λ o. o.world < length new)
names_target old new None to names = subst (λ t. IfSome t (λ o. o.world < length new)) (sym names.0) tt
names_target old new (Some g) to names = subst (λ t. IfSome t (λ o. o.world < length new)) (sym names.is)
    (slice_get_within new names.onward.world g.world (placed_there old new g.world names.onward.world names.placed))

names_leads : (old new : List World) (going : Option Going) (to : Option Onward) (told : List (List Outcome)) (lane : ℕ) (row : List Outcome) →
    Names old new going to → option_map (λ g. moved told lane row g) going ≡ option_map (λ o. led new told lane row o) to
names_leads old new None to told lane row names = ap (λ t. option_map (λ o. led new told lane row o) t) (sym names.0)
names_leads old new (Some g) to told lane row names =
    ap Some (named_leads old new g names.onward told lane row names.resumes names.outcome (placed_there old new g.world names.onward.world names.placed))
    ∙ ap (λ t. option_map (λ o. led new told lane row o) t) (sym names.is)

-- an act that was made is noted
pub learns : (bounds : Bounds) (lanes : List Lane) (old new : Search) (turn : Turn) (going : Option Going) (to : Option Onward) →
    turn.world < length old.worlds → GoesOn bounds lanes old.worlds turn going → Names old.worlds new.worlds going to → new.met ≡ old.met →
    new.rows ≡ old.rows → new.ways ≡ old.ways ++ record { turn = turn; to = to } ∷ [] → LearnsWay bounds lanes old new turn
learns bounds lanes old new turn going to within goes names met rows ways =
    let more : Extends old.worlds new.worlds = names_more old.worlds new.worlds going to names in
    record {
      met = met;
      rows = rows;
      worlds = more;
      way = record { turn = turn; to = to };
      is_turn = refl;
      ways = ways;
      is = record {
        within = within_still old.worlds new.worlds more turn.world within;
        target = names_target old.worlds new.worlds going to names;
        leads = subst (λ w. LeadsBy bounds lanes w turn (λ told row. option_map (λ o. led new.worlds told turn.lane row o) to))
            (ap or_empty (sym (same_place old.worlds new.worlds more turn.world within)))
            (λ told row at long. goes told row at long ∙ names_leads old.worlds new.worlds going to told turn.lane row names);
      };
    }

kept_after : (bounds : Bounds) (lanes : List Lane) (old new : Search) (turn : Turn) → IsKept bounds lanes old → LearnsWay bounds lanes old new turn →
    IsKept bounds lanes new
kept_after bounds lanes old new turn kept learnt = record {
  spots = λ k m at. spot_still old.worlds new.worlds old.rows new.rows m.position learnt.worlds (stays old.rows new.rows learnt.rows)
      (kept.spots k m (subst (λ met. slice_get met k ≡ Some m) learnt.met at));
  ways = λ k way at. elim (in_push old.ways learnt.way k way (subst (λ ways. slice_get ways k ≡ Some way) learnt.ways at)) [
    | inl before ↦ way_still bounds lanes old.worlds new.worlds way learnt.worlds (kept.ways k way before.1)
    | inr last ↦ subst (λ x. IsWay bounds lanes new.worlds x) (sym last.1) learnt.is
  ];
}

pub finds_new : (bounds : Bounds) (lanes : List Lane) (old new : Search) (turn : Turn) (place : ℕ) → IsKept bounds lanes old →
    LearnsWay bounds lanes old new turn → place ≡ length old.ways → FindsWay bounds lanes old new turn place
finds_new bounds lanes old new turn place kept learnt is = record {
  met = learnt.met;
  rows = learnt.rows;
  worlds = learnt.worlds;
  kept = kept_after bounds lanes old new turn kept learnt;
  stands = record {
    item = learnt.way;
    stands = subst (λ k. slice_get new.ways k ≡ Some learnt.way) (sym is) (subst (λ ways. slice_get ways (length old.ways) ≡ Some learnt.way) (sym learnt.ways)
        (get_last old.ways learnt.way));
    is = learnt.is_turn;
  };
}

-- ---- moves

set_cases : {X : Type 0} (xs : List X) (n : ℕ) (y : X) (k : ℕ) (x : X) → slice_get (slice_set xs n y) k ≡ Some x → (x ≡ y) ⊎ (slice_get xs k ≡ Some x)
set_cases [] n y k x at = inr at
set_cases (z ∷ zs) zero y zero x at = inl (same_some (Some y) x y at refl)
set_cases (z ∷ zs) zero y (suc k) x at = inr at
set_cases (z ∷ zs) (suc n) y zero x at = inr at
set_cases (z ∷ zs) (suc n) y (suc k) x at = set_cases zs n y k x at

told_there : (rows : List (List Outcome)) (places : List ℕ) (lane row : ℕ) (told : List Outcome) → slice_get places lane ≡ Some row →
    slice_get rows row ≡ Some told → slice_get (told_at rows places) lane ≡ Some told
told_there rows places lane row told at there =
    slice_get-map (λ place. or_none (slice_get rows place)) places lane
    ∙ ap (option_map (λ place. or_none (slice_get rows place))) at
    ∙ ap (λ o. Some (or_none o)) there

-- the places that a position names which was met
pub copied_within : (bounds : Bounds) (lanes : List Lane) (search : Search) (place : ℕ) (spot : Spot) → IsKept bounds lanes search → place < length search.met →
    ((m : Met Spot) → slice_get search.met place ≡ Some m → spot ≡ m.position) → IsWithin search.worlds search.rows spot
copied_within bounds lanes search place spot kept within is =
    let here : (m : _) × (slice_get search.met place ≡ Some m) = some_there search.met place within in
    subst (λ s. IsWithin search.worlds search.rows s) (sym (is here.0 here.1)) (kept.spots place here.0 here.1)

-- where the next act of a lane leads from a position
leads_from : (bounds : Bounds) (lanes : List Lane) (old mid : Search) (spot : Spot) (turn : Turn) (place row : ℕ) (told : List Outcome) (way : Way) →
    IsWithin old.worlds old.rows spot → FindsWay bounds lanes old mid turn place → slice_get mid.ways place ≡ Some way → turn.world ≡ spot.world →
    turn.begun ≡ length told → slice_get spot.rows turn.lane ≡ Some row → slice_get old.rows row ≡ Some told →
    move bounds lanes (position_of old.worlds old.rows spot) turn.lane ≡ option_map (λ to. led mid.worlds (told_at old.rows spot.rows) turn.lane told to) way.to
leads_from bounds lanes old mid spot turn place row told way within finds at world begun at_row there =
    let is_turn : way.turn ≡ turn = ap (λ (w : Way). w.turn) (same_some (slice_get mid.ways place) way finds.stands.item at finds.stands.stands) ∙
    finds.stands.is in
    let is : LeadsBy bounds lanes (or_empty (slice_get mid.worlds turn.world)) turn (λ all one. option_map (λ to. led mid.worlds all turn.lane one to) way.to) =
    subst (λ t. LeadsBy bounds lanes (or_empty (slice_get mid.worlds t.world)) t (λ all one. option_map (λ to. led mid.worlds all t.lane one to) way.to))
    is_turn (finds.kept.ways place way at).leads in
    let same : slice_get old.worlds spot.world ≡ slice_get mid.worlds turn.world =
    sym (same_place old.worlds mid.worlds finds.worlds spot.world within.in_worlds) ∙ ap (λ k. slice_get mid.worlds k) (sym world) in
    ap (λ w. move bounds lanes (record { world = or_empty w; told = told_at old.rows spot.rows }) turn.lane) same
    ∙ is (told_at old.rows spot.rows) told (told_there old.rows spot.rows turn.lane row told at_row there) (sym begun)

-- a lane that cannot make its next act does not move
pub cannot_move : (bounds : Bounds) (lanes : List Lane) (old mid : Search) (by : Move) (spot : Spot) (turn : Turn) (place row : ℕ) (told : List Outcome)
    (way : Way) → IsKept bounds lanes old → by.from < length old.met → ((m : Met Spot) → slice_get old.met by.from ≡ Some m → spot ≡ m.position) →
    FindsWay bounds lanes old mid turn place → slice_get mid.ways place ≡ Some way → turn ≡ record { world = spot.world; lane = by.lane; begun = length told } →
    slice_get spot.rows by.lane ≡ Some row → slice_get old.rows row ≡ Some told → way.to ≡ None → Moves bounds lanes old mid by None
cannot_move bounds lanes old mid by spot turn place row told way kept there_from is finds at is_turn at_row there none = record {
  met = finds.met;
  same = ap (λ met. positions mid.worlds mid.rows met) finds.met ∙ positions_still old.worlds mid.worlds old.rows mid.rows finds.worlds
      (stays old.rows mid.rows finds.rows) old.met kept.spots;
  kept = finds.kept;
  goes = λ from at_from.
      let here : spot ≡ from.position = is from at_from in
      let within : IsWithin old.worlds old.rows spot = subst (λ s. IsWithin old.worlds old.rows s) (sym here) (kept.spots by.from from at_from) in
      let lane_is : turn.lane ≡ by.lane = ap (λ (t : Turn). t.lane) is_turn in
      subst (λ s. move bounds lanes (position_of old.worlds old.rows s) by.lane ≡ None) here (
      subst (λ l. move bounds lanes (position_of old.worlds old.rows spot) l ≡ None) lane_is (
      leads_from bounds lanes old mid spot turn place row told way within finds at (ap (λ (t : Turn). t.world) is_turn) (ap (λ (t : Turn). t.begun) is_turn)
      (subst (λ l. slice_get spot.rows l ≡ Some row) (sym lane_is) at_row) there
      ∙ ap (λ t. option_map (λ to. led mid.worlds (told_at old.rows spot.rows) turn.lane told to) t) none
      )
      );
  within = tt;
}

-- a lane makes its next act
pub can_move : (bounds : Bounds) (lanes : List Lane) (old mid new : Search) (by : Move) (spot to_spot : Spot) (turn : Turn) (place row : ℕ)
    (told : List Outcome) (way : Way) (to : Onward) → IsKept bounds lanes old → by.from < length old.met →
    ((m : Met Spot) → slice_get old.met by.from ≡ Some m → spot ≡ m.position) → FindsWay bounds lanes old mid turn place → slice_get mid.ways place ≡ Some way →
    turn ≡ record { world = spot.world; lane = by.lane; begun = length told } → slice_get spot.rows by.lane ≡ Some row → slice_get old.rows row ≡ Some told →
    way.to ≡ Some to → new.worlds ≡ mid.worlds → new.ways ≡ mid.ways → new.met ≡ mid.met → GoesTo mid.rows new.rows spot by.lane row to to_spot →
    Moves bounds lanes old new by (Some to_spot)
can_move bounds lanes old mid new by spot to_spot turn place row told way to kept there_from is finds at is_turn at_row there some worlds ways met goes =
    let here : (m : _) × (slice_get old.met by.from ≡ Some m) = some_there old.met by.from there_from in
    let spot_is : spot ≡ here.0.position = is here.0 here.1 in
    let within : IsWithin old.worlds old.rows spot = subst (λ s. IsWithin old.worlds old.rows s) (sym spot_is) (kept.spots by.from here.0 here.1) in
    let lane_is : turn.lane ≡ by.lane = ap (λ (t : Turn). t.lane) is_turn in
    let after : List Outcome = answered to.resumes (or_none (slice_get mid.rows row)) to.outcome in
    let stands : slice_get new.rows goes.place ≡ Some after = placed_there mid.rows new.rows after goes.place goes.placed in
    let more_rows : Extends old.rows new.rows = subst (λ rows. Extends rows new.rows) finds.rows (placed_more mid.rows new.rows after goes.place goes.placed) in
    let more_worlds : Extends old.worlds new.worlds = subst (λ ws. Extends old.worlds ws) (sym worlds) finds.worlds in
    let same_rows : or_none (slice_get mid.rows row) ≡ told = ap (λ rows. or_none (slice_get rows row)) finds.rows ∙ ap or_none there in
    let target : to.world < length mid.worlds = subst (λ t. IfSome t (λ o. o.world < length mid.worlds)) some (finds.kept.ways place way at).target in
    let leads : move bounds lanes (position_of old.worlds old.rows spot) by.lane ≡ Some (led mid.worlds (told_at old.rows spot.rows) by.lane told to) =
    subst (λ l. move bounds lanes (position_of old.worlds old.rows spot) l ≡ Some (led mid.worlds (told_at old.rows spot.rows) l told to)) lane_is (
    leads_from bounds lanes old mid spot turn place row told way within finds at (ap (λ (t : Turn). t.world) is_turn) (ap (λ (t : Turn). t.begun) is_turn)
    (subst (λ l. slice_get spot.rows l ≡ Some row) (sym lane_is) at_row) there
    ∙ ap (λ t. option_map (λ o. led mid.worlds (told_at old.rows spot.rows) turn.lane told o) t) some
    ) in
    let told_is : told_at new.rows to_spot.rows ≡ slice_set (told_at old.rows spot.rows) by.lane (answered to.resumes told to.outcome) =
    ap (λ places. told_at new.rows places) goes.rows
    ∙ map-set (λ k. or_none (slice_get new.rows k)) spot.rows by.lane goes.place
    ∙ ap (λ all. slice_set all by.lane (or_none (slice_get new.rows goes.place))) (rows_still old.rows new.rows more_rows spot.rows within.in_rows)
    ∙ ap (λ o. slice_set (told_at old.rows spot.rows) by.lane (or_none o)) stands
    ∙ ap (λ one. slice_set (told_at old.rows spot.rows) by.lane (answered to.resumes one to.outcome)) same_rows in
    let position_is : led mid.worlds (told_at old.rows spot.rows) by.lane told to ≡ position_of new.worlds new.rows to_spot =
    ap (λ all. record { world = or_empty (slice_get mid.worlds to.world); told = all }) (sym told_is)
    ∙ ap (λ ws. record { world = or_empty (slice_get ws to.world); told = told_at new.rows to_spot.rows }) (sym worlds)
    ∙ ap (λ k. record { world = or_empty (slice_get new.worlds k); told = told_at new.rows to_spot.rows }) (sym goes.world) in
    let met_is : new.met ≡ old.met = met ∙ finds.met in
    record {
      met = met_is;
      same = ap (λ m. positions new.worlds new.rows m) met_is ∙ positions_still old.worlds new.worlds old.rows new.rows more_worlds more_rows old.met
          kept.spots;
      kept = record {
        spots = λ k m at_k. spot_still old.worlds new.worlds old.rows new.rows m.position more_worlds more_rows
            (kept.spots k m (subst (λ ms. slice_get ms k ≡ Some m) met_is at_k));
        ways = λ k w at_k. subst (λ ws. IsWay bounds lanes ws w) (sym worlds) (finds.kept.ways k w (subst (λ ws. slice_get ws k ≡ Some w) ways at_k));
      };
      goes = λ from at_from. subst (λ s. move bounds lanes (position_of old.worlds old.rows s) by.lane ≡ Some (position_of new.worlds new.rows to_spot))
          (is from at_from) (leads ∙ ap Some position_is);
      within = record {
        in_worlds = subst (λ k. k < length new.worlds) (sym goes.world) (subst (λ ws. to.world < length ws) (sym worlds) target);
        in_rows = λ k r at_k. elim (set_cases spot.rows by.lane goes.place k r (subst (λ places. slice_get places k ≡ Some r) goes.rows at_k)) [
          | inl new_one ↦ subst (λ p. p < length new.rows) (sym new_one) (slice_get_within new.rows goes.place after stands)
          | inr before ↦ within_still old.rows new.rows more_rows r (within.in_rows k r before)
        ];
      };
    }

-- ---- what is met

met_there : (worlds : List World) (rows : List (List Outcome)) (met : List (Met Spot)) (k : ℕ) (m : Met Spot) → slice_get met k ≡ Some m →
    slice_get (positions worlds rows met) k ≡ Some (met_of worlds rows m)
met_there worlds rows met k m at = slice_get-map (λ x. met_of worlds rows x) met k ∙ ap (option_map (λ x. met_of worlds rows x)) at

pub as_many : (worlds : List World) (rows : List (List Outcome)) (met : List (Met Spot)) → length (positions worlds rows met) ≡ length met
as_many worlds rows met = length-map met (λ m. met_of worlds rows m)

pub met_before : (most place : ℕ) (search : Search) (next : Met Spot) → StandsAt (λ (m : Met Spot). m.position) search.met next.position place →
    TakesIn most (met_in search) (met_in search) (met_of search.worlds search.rows next)
met_before most place search next stands = inl (
  refl,
  record {
    place = place;
    entry = met_of search.worlds search.rows stands.item;
    stands = met_there search.worlds search.rows search.met place stands.item stands.stands;
    is = ap (λ s. position_of search.worlds search.rows s) stands.is;
  },
)

pub kept_with : (bounds : Bounds) (lanes : List Lane) (old new : Search) (next : Met Spot) → IsKept bounds lanes old →
    IsWithin old.worlds old.rows next.position → TakesSpot old new next → IsKept bounds lanes new
kept_with bounds lanes old new next kept within takes =
    let moved : (m : Met Spot) → IsWithin old.worlds old.rows m.position → IsWithin new.worlds new.rows m.position =
    λ m is. spot_still old.worlds new.worlds old.rows new.rows m.position (stays old.worlds new.worlds takes.worlds)
    (stays old.rows new.rows takes.rows) is in
    record {
      spots = λ k m at. elim takes.met [
        | inl same ↦ moved m (kept.spots k m (subst (λ ms. slice_get ms k ≡ Some m) same at))
        | inr more ↦ elim (in_push old.met next k m (subst (λ ms. slice_get ms k ≡ Some m) more at)) [
          | inl before ↦ moved m (kept.spots k m before.1)
          | inr last ↦ moved m (subst (λ x. IsWithin old.worlds old.rows x.position) (sym last.1) within)
        ]
      ];
      ways = λ k way at. subst (λ ws. IsWay bounds lanes ws way) (sym takes.worlds) (kept.ways k way (subst (λ ws. slice_get ws k ≡ Some way) takes.ways at));
    }

-- ---- a move, as the search of positions sees it

from_there : (search : Search) (place : ℕ) (m : Met Spot) → slice_get search.met place ≡ Some m →
    slice_get (met_in search) place ≡ Some (met_of search.worlds search.rows m)
from_there search place m at = met_there search.worlds search.rows search.met place m at

pub takes_move : (bounds : Bounds) (lanes : List Lane) (most : ℕ) (old mid new : Search) (by : Move) (to : Spot) → by.from < length old.met →
    Moves bounds lanes old mid by (Some to) → TakesIn most (met_in mid) (met_in new) (met_of mid.worlds mid.rows (record { position = to; by = Some by })) →
    TakesMove (move bounds lanes) most by.from by.lane (met_in old) (met_in new) true
takes_move bounds lanes most old mid new by to within moves takes =
    let here : (m : _) × (slice_get old.met by.from ≡ Some m) = some_there old.met by.from within in
    one_move (move bounds lanes) most by.from by.lane (met_in old) (met_in new) (met_of old.worlds old.rows here.0) (position_of mid.worlds mid.rows to)
    (from_there old by.from here.0 here.1) (moves.goes here.0 here.1)
    (subst (λ met. TakesIn most met (met_in new) (met_of mid.worlds mid.rows (record { position = to; by = Some by }))) moves.same takes)

pub takes_none : (bounds : Bounds) (lanes : List Lane) (most : ℕ) (old mid : Search) (by : Move) → by.from < length old.met →
    Moves bounds lanes old mid by None → TakesMove (move bounds lanes) most by.from by.lane (met_in old) (met_in mid) false
takes_none bounds lanes most old mid by within moves =
    let here : (m : _) × (slice_get old.met by.from ≡ Some m) = some_there old.met by.from within in
    subst (λ met. TakesMove (move bounds lanes) most by.from by.lane (met_in old) met false) (sym moves.same)
    (no_move (move bounds lanes) most by.from by.lane (met_in old) (met_of old.worlds old.rows here.0) (from_there old by.from here.0 here.1)
    (moves.goes here.0 here.1))

-- there is no room for one more position
pub takes_too_many : (bounds : Bounds) (lanes : List Lane) (most : ℕ) (old mid : Search) (by : Move) (to : Spot) → by.from < length old.met →
    Moves bounds lanes old mid by (Some to) → most ≤ length mid.met → (start : Position) → Searched (move bounds lanes) start most by.from by.lane
    (met_in old) → MoreOrders (move bounds lanes) start most
takes_too_many bounds lanes most old mid by to within moves full start so_far =
    let here : (m : _) × (slice_get old.met by.from ≡ Some m) = some_there old.met by.from within in
    more_orders (move bounds lanes) start most by.from by.lane (met_in old) (met_of old.worlds old.rows here.0) (position_of mid.worlds mid.rows to)
    (from_there old by.from here.0 here.1) (moves.goes here.0 here.1)
    (subst (λ n. most ≤ n) (sym (as_many old.worlds old.rows old.met)) (subst (λ met. most ≤ length met) moves.met full)) so_far

-- ---- the begin

told_nothing : (lanes : ℕ) → told_at ([] ∷ []) (replicate lanes 0) ≡ replicate lanes []
told_nothing zero = refl
told_nothing (suc lanes) = ap (λ rest. [] ∷ rest) (told_nothing lanes)

all_first : (lanes k row : ℕ) → slice_get (replicate lanes 0) k ≡ Some row → row < 1
all_first zero k row at = none_some None row refl at
all_first (suc lanes) zero row at = omega (arith, same_some (Some 0) row 0 at refl)
all_first (suc lanes) (suc k) row at = all_first lanes k row at

pub begins_kept : (bounds : Bounds) (lanes : List Lane) (world : World) (search : Search) → search.worlds ≡ world ∷ [] → search.rows ≡ [] ∷ [] →
    search.ways ≡ [] → search.met ≡ record { position = record { world = 0; rows = replicate (length lanes) 0 }; by = None } ∷ [] → IsKept bounds lanes search
begins_kept bounds lanes world search worlds rows ways met =
    let first : Met Spot = record { position = record { world = 0; rows = replicate (length lanes) 0 }; by = None } in
    record {
      spots = λ k m at. elim (in_push [] first k m (subst (λ ms. slice_get ms k ≡ Some m) met at)) [
        | inl before ↦ absurd (omega (arith, before.0))
        | inr last ↦ subst (λ x. IsWithin search.worlds search.rows x.position) (sym last.1) (record {
          in_worlds = subst (λ ws. 0 < length ws) (sym worlds) (omega arith);
          in_rows = λ i row at_i. subst (λ rs. row < length rs) (sym rows) (all_first (length lanes) i row at_i);
        })
      ];
      ways = λ k way at. none_some (slice_get [] k) way refl (subst (λ ws. slice_get ws k ≡ Some way) ways at);
    }

pub begins_so : (lanes : List Lane) (world : World) (search : Search) → search.worlds ≡ world ∷ [] → search.rows ≡ [] ∷ [] →
    search.met ≡ record { position = record { world = 0; rows = replicate (length lanes) 0 }; by = None } ∷ [] →
    met_in search ≡ record { position = record { world = world; told = replicate (length lanes) [] }; by = None } ∷ []
begins_so lanes world search worlds rows met =
    ap (λ ws. positions ws search.rows search.met) worlds
    ∙ ap (λ rs. positions (world ∷ []) rs search.met) rows
    ∙ ap (λ ms. positions (world ∷ []) ([] ∷ []) ms) met
    ∙ ap (λ told. record { position = record { world = world; told = told }; by = None } ∷ []) (told_nothing (length lanes))
