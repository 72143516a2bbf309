-- From the text that was read to the input, and from what is told of a race to what the job's end says.
use Rattle.std.proofs.Common.{◌≡◌, ◌∙◌, ℕ, zero, suc, ◌+◌, ◌<◌, ◌≤◌, List, [], ◌∷◌, ◌++◌, Option, None, Some, length, take, refl, sym, ap, subst, arith, length-append}
use Rattle.std.specs.Prelude.{IfSome}
use Rattle.std.specs.Io.KnownBytes.{Consumes}
use Rattle.std.proofs.lemmas.Bool.{lt-ltb}
use Rattle.posix_model.specs.Types.{Bounds}
use Rattle.script_text.specs.Races.{race_script}
use Rattle.script_text.specs.declared.script.TheConstants.{SCRIPT_MAX}
use Rattle.script_text.specs.declared.races.RaceScript.{RaceScript}
use Rattle.race_outcomes.specs.declared.setup.Setup.{Setup}
use Rattle.std.proofs.lemmas.List.{append-nil, append_assoc, length-map}
use Rattle.std.proofs.lemmas.Option.{none-some, same_Some, slice_get_past, slice_get_within}
use Rattle.std.specs.List.{slice_get}
use Rattle.call_types.specs.declared.act.Record.{Record}
use Rattle.posix_model.specs.History.{legal, world_of}
use Rattle.race_outcomes.specs.Moves.{move}
use Rattle.race_outcomes.specs.Orders.{Leads, IsEnd, MoreOrders}
use Rattle.race_outcomes.specs.Outcomes.{start_of}
use Rattle.race_outcomes.specs.Search.{IsExplored, LeadsTo}
use Rattle.race_outcomes.specs.Setups.{lanes_of}
use Rattle.race_outcomes.specs.Tellings.{AreTold, IsToldAt, outcome_line, texts}
use Rattle.race_outcomes.specs.Witnesses.{records_along}
use Rattle.race_outcomes.specs.declared.lanes.Lane.{Lane}
use Rattle.race_outcomes.specs.declared.position.Position.{Position}
use Rattle.race_outcomes.specs.declared.positions.Met.{Met}
use Rattle.race_outcomes.specs.declared.tellings.Told.{Told}
use Rattle.job_core.specs.Shown.{shown_lines}
use Rattle.job_core.specs.declared.outcomes.Search.{Search}
use Rattle.command_line.specs.declared.form.Form.{Form}
use Rattle.job_core.specs.Outcomes.{IsReady, HasOutcomes, IsWitness, AreWitnessLines}
use Rattle.job_core.specs.Proved.Racing.{IsUntold, PutsWitness, PutsWitnesses, GivesUp, IsUnsearched, IsSearch, IsUnprinted}
use Rattle.job_core.specs.declared.job_end.JobEnd.{JobEnd}
use Rattle.job_core.specs.declared.job_end.JobEnd.TheVariants as ended
use Rattle.command_line.specs.declared.telling.Telling.{Telling}
use Rattle.command_line.specs.declared.telling.Telling.TheVariants as telling

-- ---- the text that was read is the input, or both are too long

-- two texts that are too long are read as one
race_cut : (text input : List ℕ) → SCRIPT_MAX < length text → SCRIPT_MAX < length input → race_script text ≡ race_script input
race_cut text input long also = rw (lt-ltb 16777216 (length text) long, lt-ltb 16777216 (length input) also) refl

pub race_of : (known : Option (List ℕ)) (text : List ℕ) → IfSome known (λ input. text ≡ input) → IfSome known (λ input. race_script text ≡ race_script input)
race_of None text is = tt
race_of (Some input) text is = ap race_script is

-- more was read than a script has
pub race_of_front : (from to : Option (List ℕ)) (text bytes : List ℕ) → Consumes from to bytes → text ≡ bytes → SCRIPT_MAX < length text →
    IfSome from (λ input. race_script text ≡ race_script input)
race_of_front None to text bytes consumes is long = tt
race_of_front (Some known) None text bytes consumes is long = absurd consumes
race_of_front (Some known) (Some left) text bytes consumes is long =
    race_cut text known long (omega (arith, long, ap length is, ap length consumes, length-append bytes left))

-- ---- witnesses

-- an order to an end, and what is recorded along it, are a witness of what the end tells
pub witness_of : (bounds : Bounds) (lanes : List Lane) (race : RaceScript) (s : Setup) (t : Told) (met : List (Met Position)) (order : List ℕ)
    (along records : List Record) → lanes ≡ lanes_of race.calls
    → legal bounds s.records → s.world ≡ world_of bounds s.records → slice_get met 0 ≡ Some (record { position = start_of lanes s.world; by = None })
    → IsToldAt (move bounds lanes) met race.calls t → LeadsTo (move bounds lanes) met t.place order →
    along ≡ records_along bounds lanes (start_of lanes s.world) order
    → ((end : Position) (history : List Record) → Leads (move bounds lanes) (start_of lanes s.world) order end → legal bounds history →
    world_of bounds history ≡ s.world → legal bounds (history ++ along))
    → records ≡ s.records ++ along → IsWitness bounds race s t.text.items records
witness_of bounds lanes race s t met order along records same is_legal world begun at to along_is goes_on is =
    let leads : Leads (move bounds lanes) (start_of lanes s.world) order at.entry.position =
    to (record { position = start_of lanes s.world; by = None }) at.entry begun at.stands in
    record {
      order = order;
      end = at.entry.position;
      leads = subst (λ (l : List Lane). Leads (move bounds l) (start_of l s.world) order at.entry.position) same leads;
      is_end = subst (λ (l : List Lane). IsEnd (move bounds l) at.entry.position) same at.end;
      tells = sym at.text;
      records_are = is ∙ ap (λ (r : List Record). s.records ++ r) along_is ∙
          ap (λ (l : List Lane). s.records ++ records_along bounds l (start_of l s.world) order) same;
      is_legal = subst (legal bounds) (sym is) (goes_on at.entry.position s.records leads is_legal (sym world));
    }

-- the lines of one outcome more
lines_one_more : (bounds : Bounds) (race : RaceScript) (s : Setup) (form : Form) (n m : ℕ) (texts : List (List ℕ)) (text lines : List ℕ)
    (records : List Record) → m ≡ n + length texts
    → AreWitnessLines bounds race s form n texts lines → IsWitness bounds race s text records
    → AreWitnessLines bounds race s form n (texts ++ text ∷ []) (lines ++ (outcome_line m text ++ shown_lines form records))
lines_one_more bounds race s form n m [] text lines records is none witness = (
  records,
  [],
  witness,
  ap (λ (x : List ℕ). x ++ (outcome_line m text ++ shown_lines form records)) none
      ∙ ap (λ (k : ℕ). outcome_line k text ++ shown_lines form records) (let same : m ≡ n = omega (arith, is) in same)
      ∙ ap (λ (x : List ℕ). outcome_line n text ++ x) (sym (append-nil (shown_lines form records))),
  refl,
)
lines_one_more bounds race s form n m (t ∷ ts) text lines records is each witness =
    let more : List ℕ = outcome_line m text ++ shown_lines form records in (
      each.0,
      each.1 ++ more,
      each.2,
      ap (λ (x : List ℕ). x ++ more) each.3 ∙ append_assoc (outcome_line n t) (shown_lines form each.0 ++ each.1) more
          ∙ ap (λ (x : List ℕ). outcome_line n t ++ x) (append_assoc (shown_lines form each.0) each.1 more),
      lines_one_more bounds race s form (n + 1) m ts text each.1 records (omega (arith, is)) each.4 witness,
    )

-- the texts of one more
texts_next : (told : List Told) (number : ℕ) (t : Told) → slice_get told number ≡ Some t →
    texts (take (suc number) told) ≡ texts (take number told) ++ t.text.items ∷ []
texts_next [] number t at = let bad : None ≡ Some t = sym (slice_get_past [] number (omega arith)) ∙ at in absurd (none-some t bad)
texts_next (x ∷ xs) zero t at = ap (λ (y : Told). y.text.items ∷ []) (same_Some x t at)
texts_next (x ∷ xs) (suc n) t at = ap (λ (l : List (List ℕ)). x.text.items ∷ l) (texts_next xs n t at)

-- as many texts as are taken
texts_taken : (told : List Told) (number : ℕ) → number ≤ length told → number ≡ length (texts (take number told))
texts_taken told zero within = refl
texts_taken [] (suc n) within = absurd (omega (arith, within))
texts_taken (x ∷ xs) (suc n) within = ap suc (texts_taken xs n (omega (arith, within)))

-- one outcome more was gathered
pub puts_one_more : (search : Search) (form : Form) (number : ℕ) (told : List Told) (t : Told) (old now new : List ℕ) → slice_get told number ≡ Some t
    → PutsWitnesses search form (texts (take number told)) old now → PutsWitness search form number t.text.items now new →
    PutsWitnesses search form (texts (take (number + 1) told)) old new
puts_one_more search form number told t old now new at so_far one =
    let more : List ℕ = outcome_line number t.text.items ++ shown_lines form one.records in
    let next : texts (take number told) ++ t.text.items ∷ [] ≡ texts (take (number + 1) told) =
    sym (texts_next told number t at) ∙ ap (λ (k : ℕ). texts (take k told)) (let on : suc number ≡ number + 1 = omega arith in on) in
    let within : number < length told = slice_get_within told number t at in
    record {
      lines = so_far.lines ++ more;
      each = subst (λ (x : List (List ℕ)). AreWitnessLines search.race.limits.bounds search.script search.setup form 0 x (so_far.lines ++ more)) next
          (lines_one_more search.race.limits.bounds search.script search.setup form 0 number (texts (take number told)) t.text.items so_far.lines one.records
          (let is : number ≡ 0 + length (texts (take number told)) = omega (arith, texts_taken told number (omega (arith, within))) in
          is) so_far.each one.witness);
      is = one.is ∙ ap (λ (x : List ℕ). x ++ more) so_far.is ∙ append_assoc old so_far.lines more;
    }

-- ---- a search

-- there are more orders than so many of the race that a text is the script of
pub too_large : (bounds : Bounds) (lanes : List Lane) (text : List ℕ) (race : RaceScript) (s : Setup) (most : ℕ) (end : JobEnd) → IsReady bounds text race s →
    lanes ≡ lanes_of race.calls
    → GivesUp (move bounds lanes) (start_of lanes s.world) most end → IsUnsearched bounds most text end
too_large bounds lanes text race s most (ended.TooManyStates told) ready same gives_up = (
  gives_up.0,
  record { race = race; s = s; ready = ready; more = subst (λ (l : List Lane). MoreOrders (move bounds l) (start_of l s.world) most) same gives_up.1 },
)
too_large bounds lanes text race s most ended.NoMemory ready same gives_up = tt
too_large bounds lanes text race s most other ready same gives_up = absurd gives_up

-- what a search found is all that there is
has_found : (bounds : Bounds) (text : List ℕ) (search : Search) → search.race.limits.bounds ≡ bounds → IsReady bounds text search.script search.setup →
    IsSearch search
    → HasOutcomes bounds text search.script search.setup (texts search.told.items) (length search.explored.met)
has_found bounds text search same ready found =
    let lanes = lanes_of search.script.calls in
    record {
      ready = ready;
      told = subst (λ (b : Bounds). AreTold b search.script.calls search.setup.world (texts search.told.items)) same found.told;
      counts = record {
        explored = search.explored;
        all = subst (λ (b : Bounds). IsExplored (move b lanes) (start_of lanes search.setup.world) search.explored) same
            (subst (λ (l : List Lane). IsExplored (move search.race.limits.bounds l) (start_of l search.setup.world) search.explored) found.lanes_are
            found.all);
        counted = refl;
      };
    }

-- nothing is printed, for a reason that the end says
pub unprinted : (bounds : Bounds) (most : ℕ) (how : Telling) (text : List ℕ) (search : Search) (end : JobEnd) → search.race.limits.bounds ≡ bounds →
    IsReady bounds text search.script search.setup → IsSearch search
    → IsUnprinted search how end → IsUntold bounds most how text end
unprinted bounds most (telling.Witness number form) text search ended.NoSuchOutcome same ready found lacks = record {
  race = search.script;
  s = search.setup;
  texts = texts search.told.items;
  states = length search.explored.met;
  has = has_found bounds text search same ready found;
  number = number;
  form = form;
  asks = refl;
  few = omega (arith, lacks, length-map search.told.items (λ (t : Told). t.text.items));
}
unprinted bounds most (telling.Witness number form) text search ended.NoMemory same ready found lacks = tt
unprinted bounds most (telling.Witness number form) text search other same ready found lacks = absurd lacks
unprinted bounds most telling.Outcomes text search end same ready found is = subst (IsUntold bounds most telling.Outcomes text) (sym is) tt
unprinted bounds most (telling.Witnesses form) text search end same ready found is = subst (IsUntold bounds most (telling.Witnesses form) text) (sym is) tt
