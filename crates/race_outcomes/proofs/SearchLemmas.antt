-- A search goes on: place by place, and at each place lane by lane.
use Rattle.std.proofs.Common.{◌≡◌, ◌∙◌, ◌<◌, ◌≤◌, ◌+◌, ◌++◌, ◌⊎◌, ℕ, List, [], ◌∷◌, Bool, true, false, Option, None, Some, length, refl, ap, sym, subst, inl, inr, arith}
use Rattle.std.specs.List.{Contains, slice_get}
use Rattle.std.proofs.lemmas.List.{length_push, same_from_push}
use Rattle.std.proofs.lemmas.Option.{slice_get_within}
use Rattle.std.proofs.lemmas.List.Elements.{Contains-append_left, Contains-push, Contains-push_cases}
use Rattle.race_outcomes.specs.declared.positions.Met.{Met}
use Rattle.race_outcomes.specs.declared.positions.Move.{Move}
use Rattle.race_outcomes.specs.Orders.{Leads, IsEnd, AreApart, MoreOrders}
use Rattle.race_outcomes.specs.Search.{Has, ComesBy, IsTraced, AreTraced, LeadsBetween, LeadsTo, EndsAt, IsExplored}
use Rattle.race_outcomes.specs.Proved.Search.{IsBefore, IsOrder, OrderOf, Searched, TakesIn, Keeps, TakesMove, TakesBelow, TakesMoves, NotesEnd, NotedEnds, SoFar, GoesBack}
use Rattle.race_outcomes.proofs.PlaceLemmas.{get_last, same_some, none_some, some_there, below_or_last, le_or_lt, in_push, kept_in, apart_push}
use Rattle.race_outcomes.proofs.OrderLemmas.{leads_more, closed_leads}

-- what a search comes to before the next lane is before this one, or is this one
before_or_here : (k n place lane : ℕ) → IsBefore k n place (lane + 1) → IsBefore k n place lane ⊎ ((k ≡ place) × (n ≡ lane))
before_or_here k n place lane before = elim before [
  | inl lower ↦ inl (inl lower)
  | inr at ↦ elim (below_or_last n lane at.1) [
    | inl less ↦ inl (inr (at.0, less))
    | inr last ↦ inr (at.0, last)
  ]
]

before_wider : (place lane k n : ℕ) → IsBefore k n place lane → IsBefore k n place (lane + 1)
before_wider place lane k n before = elim before [
  | inl lower ↦ inl lower
  | inr at ↦ inr (at.0, omega (arith, at.1))
]

before_next : (place lane k n : ℕ) → IsBefore k n place lane → IsBefore k n (place + 1) 0
before_next place lane k n before = elim before [
  | inl lower ↦ inl (omega (arith, lower))
  | inr at ↦ inl (omega (arith, at.0))
]

before_low : (k n place lane : ℕ) → IsBefore k n place lane → k ≤ place
before_low k n place lane before = elim before [
  | inl lower ↦ omega (arith, lower)
  | inr at ↦ omega (arith, at.0)
]

not_before : (place lane : ℕ) → IsBefore place lane place lane → ⊥
not_before place lane before = elim before [
  | inl lower ↦ omega (arith, lower)
  | inr at ↦ omega (arith, at.1)
]

-- more positions do no harm
has_kept : {P : Type 0} (met more : List (Met P)) (p : P) → Has met p → Has (met ++ more) p
has_kept met more p has = record { place = has.place; entry = has.entry; stands = kept_in met more has.place has.entry has.stands; is = has.is }

traced_kept : {P : Type 0} (moves : P → ℕ → Option P) (met more : List (Met P)) (k : ℕ) (p : P) (by : Option Move) → IsTraced moves met k p by →
    IsTraced moves (met ++ more) k p by
traced_kept moves met more k p None traced = traced
traced_kept moves met more k p (Some by) traced = record {
  before = traced.before;
  entry = traced.entry;
  stands =
      kept_in met more by.from traced.entry traced.stands;
  goes = traced.goes;
}

order_kept : (a b c d : ℕ) → ((k n : ℕ) → IsBefore k n a b → IsBefore k n c d) → (orders more : List (List ℕ)) (order : List ℕ) (by : Option Move) →
    IsOrder a b orders order by → IsOrder c d (orders ++ more) order by
order_kept a b c d wider orders more order None is = is
order_kept a b c d wider orders more order (Some by) is = record {
  done = wider by.from by.lane is.done;
  front = is.front;
  stands =
      kept_in orders more by.from is.front is.stands;
  is = is.is;
}

order_later : (a b c d : ℕ) → ((k n : ℕ) → IsBefore k n a b → IsBefore k n c d) → (orders : List (List ℕ)) (order : List ℕ) (by : Option Move) →
    IsOrder a b orders order by → IsOrder c d orders order by
order_later a b c d wider orders order None is = is
order_later a b c d wider orders order (Some by) is = record { done = wider by.from by.lane is.done; front = is.front; stands = is.stands; is = is.is }

-- a search that met nothing new
searched_on : {P : Type 0} (moves : P → ℕ → Option P) (start : P) (most a b c d : ℕ) (met : List (Met P)) → ((k n : ℕ) → IsBefore k n a b → IsBefore k n c d) →
    Searched moves start most a b met → ((k n : ℕ) (m : Met P) (q : P) → IsBefore k n c d → slice_get met k ≡ Some m → moves m.position n ≡ Some q →
    Has met q) → Searched moves start most c d met
searched_on moves start most a b c d met wider so_far closed = record {
  few = so_far.few;
  begun = so_far.begun;
  traced = so_far.traced;
  orders = so_far.orders;
  many = so_far.many;
  apart = so_far.apart;
  order_of = λ k m at. let o = so_far.order_of k m at in record {
    order = o.order;
    stands = o.stands;
    leads = o.leads;
    goes_on =
        order_later a b c d wider so_far.orders o.order m.by o.goes_on;
  };
  closed = closed;
}

-- a search begins with its start
pub begun_with : {P : Type 0} (moves : P → ℕ → Option P) (start : P) (most : ℕ) → 0 < most →
    Searched moves start most 0 0 (record { position = start; by = None } ∷ [])
begun_with {P} moves start most some =
    let first : Met P = record { position = start; by = None } in
    let empty : List ℕ = [] in
    record {
      few = omega (arith, some);
      begun = refl;
      traced = λ k m at. elim (in_push [] first k m at) [
        | inl within ↦ absurd (omega (arith, within.0))
        | inr last ↦ subst (λ x. IsTraced moves (first ∷ []) k x.position x.by) (sym last.1) last.0
      ];
      orders = [] ∷ [];
      many = refl;
      apart = apart_push [] [] (λ k at. none_some (slice_get [] k) [] refl at) (λ i k x at_i at_k. none_some (slice_get [] i) x refl at_i);
      order_of = λ k m at. elim (in_push [] first k m at) [
        | inl within ↦ absurd (omega (arith, within.0))
        | inr last ↦ subst (λ x. OrderOf moves start 0 0 ([] ∷ []) k x) (sym last.1)
            (record { order = []; stands = subst (λ n. slice_get (empty ∷ []) n ≡ Some empty) (sym last.0) refl; leads = refl; goes_on = refl })
      ];
      closed = λ k n m q before at goes. elim before [
        | inl lower ↦ absurd (omega (arith, lower))
        | inr at ↦ absurd (omega (arith, at.1))
      ];
    }

-- one element more is not none
not_empty : (xs : List ℕ) (x : ℕ) → xs ++ x ∷ [] ≡ [] → ⊥
not_empty xs x same = omega (arith, length_push xs x, ap length same)

-- an order that goes on by this place and lane is that of no position yet
new_by : (orders : List (List ℕ)) (place lane : ℕ) (front order : List ℕ) (by : Option Move) → AreApart orders → slice_get orders place ≡ Some front →
    IsOrder place lane orders order by → order ≡ front ++ lane ∷ [] → ⊥
new_by orders place lane front order None apart stands is same = not_empty front lane (sym same ∙ is)
new_by orders place lane front order (Some by) apart stands is same =
    let parts : (is.front ≡ front) × (by.lane ≡ lane) = same_from_push is.front front by.lane lane (sym is.is ∙ same) in
    let from : by.from ≡ place = apart by.from place front (subst (λ o. slice_get orders by.from ≡ Some o) parts.0 is.stands) stands in
    not_before place lane (subst (λ k. IsBefore k lane place lane) from (subst (λ n. IsBefore by.from n place lane) parts.1 is.done))

is_new : {P : Type 0} (moves : P → ℕ → Option P) (start : P) (most place lane : ℕ) (met : List (Met P)) (so_far : Searched moves start most place lane met)
    (front : List ℕ) → slice_get so_far.orders place ≡ Some front → (k : ℕ) → slice_get so_far.orders k ≡ Some (front ++ lane ∷ []) → ⊥
is_new moves start most place lane met so_far front stands k at =
    let within : k < length met = subst (λ n. k < n) so_far.many (slice_get_within so_far.orders k (front ++ lane ∷ []) at) in
    let m : (m : _) × (slice_get met k ≡ Some m) = some_there met k within in
    let o = so_far.order_of k m.0 m.1 in
    new_by so_far.orders place lane front o.order m.0.by so_far.apart stands o.goes_on
    (same_some (slice_get so_far.orders k) o.order (front ++ lane ∷ []) o.stands at)

-- where there is no room for where a move leads, there are more orders than positions
pub more_orders : {P : Type 0} (moves : P → ℕ → Option P) (start : P) (most place lane : ℕ) (met : List (Met P)) (from : Met P) (q : P) →
    slice_get met place ≡ Some from → moves from.position lane ≡ Some q → most ≤ length met → Searched moves start most place lane met →
    MoreOrders moves start most
more_orders {P} moves start most place lane met from q at goes full so_far =
    let o = so_far.order_of place from at in
    let next : List ℕ = o.order ++ lane ∷ [] in
    record {
      orders = so_far.orders ++ next ∷ [];
      more = omega (arith, full, so_far.many, length_push so_far.orders next);
      apart = apart_push so_far.orders next (is_new moves start most place lane met so_far o.order o.stands) so_far.apart;
      lead = λ k order at_k. elim (in_push so_far.orders next k order at_k) [
        | inl old ↦
            let m : (m : _) × (slice_get met k ≡ Some m) = some_there met k (subst (λ n. k < n) so_far.many old.0) in
            let o_k = so_far.order_of k m.0 m.1 in
            (m.0.position, subst (λ x. Leads moves start x m.0.position) (same_some (slice_get so_far.orders k) o_k.order order o_k.stands old.1) o_k.leads)
        | inr last ↦ (q, subst (λ x. Leads moves start x q) (sym last.1) (leads_more moves start from.position q o.order lane o.leads goes))
      ];
    }

pub no_room : {P : Type 0} (moves : P → ℕ → Option P) (start : P) → MoreOrders moves start 0
no_room moves start = record {
  orders = [] ∷ [];
  more = omega arith;
  apart = apart_push [] [] (λ k at. none_some (slice_get [] k) [] refl at) (λ i k x at_i at_k. none_some (slice_get [] i) x refl at_i);
  lead = λ k order at. elim (in_push [] [] k order at) [
    | inl within ↦ absurd (omega (arith, within.0))
    | inr last ↦ (start, subst (λ x. Leads moves start x start) (sym last.1) refl)
  ];
}

-- a move that leads nowhere, or to what was met
stays_on : {P : Type 0} (moves : P → ℕ → Option P) (start : P) (most place lane : ℕ) (met : List (Met P)) (from : Met P) → slice_get met place ≡ Some from →
    ((q : P) → moves from.position lane ≡ Some q → Has met q) → Searched moves start most place lane met → Searched moves start most place (lane + 1) met
stays_on moves start most place lane met from at there so_far = searched_on moves start most place lane place (lane + 1) met (before_wider place lane) so_far
    (λ k n m q before at_k goes. elim (before_or_here k n place lane before) [
      | inl earlier ↦ so_far.closed k n m q earlier at_k goes
      | inr here ↦
          let same : m ≡ from = same_some (slice_get met place) m from (subst (λ i. slice_get met i ≡ Some m) here.0 at_k) at in
          there q (subst (λ x. moves x.position lane ≡ Some q) same (subst (λ i. moves m.position i ≡ Some q) here.1 goes))
    ])

-- a move that leads to a new position
grows_on : {P : Type 0} (moves : P → ℕ → Option P) (start : P) (most place lane : ℕ) (met : List (Met P)) (from : Met P) (to : P) →
    slice_get met place ≡ Some from → moves from.position lane ≡ Some to → length met < most → Searched moves start most place lane met →
    Searched moves start most place (lane + 1) (met ++ record { position = to; by = Some (record { from = place; lane = lane }) } ∷ [])
grows_on {P} moves start most place lane met from to at goes room so_far =
    let by : Move = record { from = place; lane = lane } in
    let next : Met P = record { position = to; by = Some by } in
    let within : place < length met = slice_get_within met place from at in
    let o = so_far.order_of place from at in
    let order : List ℕ = o.order ++ lane ∷ [] in
    let has_next : Has (met ++ next ∷ []) to = record { place = length met; entry = next; stands = get_last met next; is = refl } in
    record {
      few = omega (arith, room, length_push met next);
      begun = kept_in met (next ∷ []) 0 (record { position = start; by = None }) so_far.begun;
      traced = λ k m at_k. elim (in_push met next k m at_k) [
        | inl old ↦ traced_kept moves met (next ∷ []) k m.position m.by (so_far.traced k m old.1)
        | inr last ↦ subst (λ x. IsTraced moves (met ++ next ∷ []) k x.position x.by) (sym last.1)
            (record { before = omega (arith, within, last.0); entry = from; stands = kept_in met (next ∷ []) place from at; goes = goes })
      ];
      orders = so_far.orders ++ order ∷ [];
      many = length_push so_far.orders order ∙ ap (λ n. n + 1) so_far.many ∙ sym (length_push met next);
      apart = apart_push so_far.orders order (is_new moves start most place lane met so_far o.order o.stands) so_far.apart;
      order_of = λ k m at_k. elim (in_push met next k m at_k) [
        | inl old ↦
            let o_k = so_far.order_of k m old.1 in
            record {
              order = o_k.order;
              stands = kept_in so_far.orders (order ∷ []) k o_k.order o_k.stands;
              leads = o_k.leads;
              goes_on = order_kept place lane place (lane + 1) (before_wider place lane) so_far.orders (order ∷ []) o_k.order m.by o_k.goes_on;
            }
        | inr last ↦ subst (λ x. OrderOf moves start place (lane + 1) (so_far.orders ++ order ∷ []) k x) (sym last.1) (record {
          order = order;
          stands = subst (λ n. slice_get (so_far.orders ++ order ∷ []) n ≡ Some order) (so_far.many ∙ sym last.0) (get_last so_far.orders order);
          leads = leads_more moves start from.position to o.order lane o.leads goes;
          goes_on = record { done = inr (refl, omega arith); front = o.order; stands = kept_in so_far.orders (order ∷ []) place o.order o.stands; is = refl };
        })
      ];
      closed = λ k n m q before at_k moves_on. elim (in_push met next k m at_k) [
        | inl old ↦ elim (before_or_here k n place lane before) [
          | inl earlier ↦ has_kept met (next ∷ []) q (so_far.closed k n m q earlier old.1 moves_on)
          | inr here ↦
              let same : m ≡ from = same_some (slice_get met place) m from (subst (λ i. slice_get met i ≡ Some m) here.0 old.1) at in
              let leads : moves from.position lane ≡ Some q = subst (λ x. moves x.position lane ≡ Some q) same
              (subst (λ i. moves m.position i ≡ Some q) here.1 moves_on) in
              subst (λ x. Has (met ++ next ∷ []) x) (same_some (moves from.position lane) to q goes leads) has_next
        ]
        | inr last ↦ absurd (omega (arith, before_low k n place (lane + 1) before, last.0, within))
      ];
    }

-- the move of one lane
pub no_move : {P : Type 0} (moves : P → ℕ → Option P) (most place lane : ℕ) (met : List (Met P)) (from : Met P) → slice_get met place ≡ Some from →
    moves from.position lane ≡ None → TakesMove moves most place lane met met false
no_move moves most place lane met from at none = record {
  on = λ start. stays_on moves start most place lane met from at (λ q goes. none_some (moves from.position lane) q none goes);
  kept = λ k m is. is;
  tells = λ m is. (λ same. subst (λ x. moves x.position lane ≡ None) (same_some (slice_get met place) from m at is) none, λ same. refl);
}

pub one_move : {P : Type 0} (moves : P → ℕ → Option P) (most place lane : ℕ) (old new : List (Met P)) (from : Met P) (to : P) →
    slice_get old place ≡ Some from → moves from.position lane ≡ Some to →
    TakesIn most old new (record { position = to; by = Some (record { from = place; lane = lane }) }) → TakesMove moves most place lane old new true
one_move {P} moves most place lane old new from to at goes takes =
    let next : Met P = record { position = to; by = Some (record { from = place; lane = lane }) } in
    record {
      on = λ start so_far. elim takes [
        | inl was ↦ subst (λ xs. Searched moves start most place (lane + 1) xs) (sym was.0)
            (stays_on moves start most place lane old from at (λ q leads. subst (λ x. Has old x) (same_some (moves from.position lane) to q goes leads) was.1)
            so_far)
        | inr more ↦ subst (λ xs. Searched moves start most place (lane + 1) xs) (sym more.0)
            (grows_on moves start most place lane old from to at goes more.1 so_far)
      ];
      kept = λ k m is. elim takes [
        | inl was ↦ subst (λ xs. slice_get xs k ≡ Some m) (sym was.0) is
        | inr more ↦ subst (λ xs. slice_get xs k ≡ Some m) (sym more.0) (kept_in old (next ∷ []) k m is)
      ];
      tells = λ m is.
          let leads : moves m.position lane ≡ Some to = subst (λ x. moves x.position lane ≡ Some to) (same_some (slice_get old place) from m at is) goes in
          (λ same. absurd (grind (arith, same)), λ none. none_some (moves m.position lane) to none leads);
    }

pub all_below : {P : Type 0} (moves : P → ℕ → Option P) (most place lanes : ℕ) (old new : List (Met P)) (goes : Bool) → place < length old →
    ((p : P) (n : ℕ) → lanes ≤ n → moves p n ≡ None) → TakesBelow moves most place lanes old new goes → TakesMoves moves most place old new goes
all_below moves most place lanes old new goes within past below =
    let next_place : (k n : ℕ) → IsBefore k n (place + 1) 0 → IsBefore k n place lanes ⊎ (lanes ≤ n) = λ k n before. elim before [
      | inl lower ↦ elim (below_or_last k place lower) [
        | inl less ↦ inl (inl less)
        | inr here ↦ elim (le_or_lt lanes n) [
          | inl beyond ↦ inr beyond
          | inr less ↦ inl (inr (here, less))
        ]
      ]
      | inr at ↦ absurd (omega (arith, at.1))
    ] in
    record {
      on = λ start so_far.
          let done = below.on start so_far in
          searched_on moves start most place lanes (place + 1) 0 new (before_next place lanes) done (λ k n m q before at leads. elim (next_place k n before) [
            | inl earlier ↦ done.closed k n m q earlier at leads
            | inr beyond ↦ none_some (moves m.position n) q (past m.position n beyond) leads
          ]);
      kept = below.kept;
      tells = λ m at.
          let says = below.tells m at in (
            λ none n. elim (le_or_lt lanes n) [
              | inl beyond ↦ past m.position n beyond
              | inr less ↦ says.0 none n less
            ],
            λ none. says.1 (λ n less. none n),
          );
    }

-- the ends are noted, place by place
no_end_yet : {P : Type 0} (moves : P → ℕ → Option P) (met : List (Met P)) → NotedEnds moves met 0 []
no_end_yet moves met = record {
  sound = λ k has. absurd (omega (arith, has.1));
  complete = λ k less at. absurd (omega (arith, less));
}

end_kept : {P : Type 0} (moves : P → ℕ → Option P) (old new : List (Met P)) → Keeps old new → (k : ℕ) → EndsAt moves old k → EndsAt moves new k
end_kept moves old new kept k at = record { entry = at.entry; stands = kept k at.entry at.stands; end = at.end }

end_was : {P : Type 0} (moves : P → ℕ → Option P) (old new : List (Met P)) → Keeps old new → (k : ℕ) → k < length old → EndsAt moves new k → EndsAt moves old k
end_was moves old new kept k within at =
    let was : (m : _) × (slice_get old k ≡ Some m) = some_there old k within in
    let same : at.entry ≡ was.0 = same_some (slice_get new k) at.entry was.0 at.stands (kept k was.0 was.1) in
    record { entry = was.0; stands = was.1; end = subst (λ x. IsEnd moves x.position) same at.end }

one_more_noted : {P : Type 0} (moves : P → ℕ → Option P) (most place : ℕ) (old new : List (Met P)) (ends noted : List ℕ) (goes : Bool) → place < length old →
    NotedEnds moves old place ends → TakesMoves moves most place old new goes → NotesEnd ends noted place goes → NotedEnds moves new (place + 1) noted
one_more_noted moves most place old new ends noted goes within so_far takes notes =
    let here : (m : _) × (slice_get old place ≡ Some m) = some_there old place within in
    let still : slice_get new place ≡ Some here.0 = takes.kept place here.0 here.1 in
    record {
      sound = λ k has. elim notes [
        | inl moved ↦ end_kept moves old new takes.kept k (so_far.sound k (subst (λ xs. Contains xs k) moved.1 has))
        | inr ended ↦ elim (Contains-push_cases ends place k (subst (λ xs. Contains xs k) ended.1 has)) [
          | inl before ↦ end_kept moves old new takes.kept k (so_far.sound k before)
          | inr last ↦ subst (λ i. EndsAt moves new i) last (record { entry = here.0; stands = still; end = (takes.tells here.0 here.1).0 ended.0 })
        ]
      ];
      complete = λ k less at. elim (below_or_last k place less) [
        | inl lower ↦
            let before : Contains ends k = so_far.complete k lower (end_was moves old new takes.kept k (omega (arith, lower, within)) at) in
            elim notes [
              | inl moved ↦ subst (λ xs. Contains xs k) (sym moved.1) before
              | inr ended ↦ subst (λ xs. Contains xs k) (sym ended.1) (Contains-append_left ends (place ∷ []) k before)
            ]
        | inr last ↦
            let end_here : EndsAt moves old place = end_was moves old new takes.kept place within (subst (λ i. EndsAt moves new i) last at) in
            let ends_so : IsEnd moves here.0.position = subst (λ x. IsEnd moves x.position)
            (same_some (slice_get old place) end_here.entry here.0 end_here.stands here.1) end_here.end in
            elim notes [
              | inl moved ↦ absurd (grind (arith, moved.0, (takes.tells here.0 here.1).1 ends_so))
              | inr ended ↦ subst (λ xs. Contains xs k) (sym ended.1) (subst (λ i. Contains (ends ++ place ∷ []) i) (sym last) (Contains-push ends place))
            ]
      ];
    }

-- the search of all places
pub begun_so : {P : Type 0} (moves : P → ℕ → Option P) (start : P) (most : ℕ) → 0 < most →
    SoFar moves start most 0 (record { position = start; by = None } ∷ []) []
begun_so moves start most some = record { searched = begun_with moves start most some; noted = no_end_yet moves _ }

pub one_more_place : {P : Type 0} (moves : P → ℕ → Option P) (start : P) (most place : ℕ) (old new : List (Met P)) (ends noted : List ℕ) (goes : Bool) →
    place < length old → SoFar moves start most place old ends → TakesMoves moves most place old new goes → NotesEnd ends noted place goes →
    SoFar moves start most (place + 1) new noted
one_more_place moves start most place old new ends noted goes within so_far takes notes = record {
  searched = takes.on start so_far.searched;
  noted = one_more_noted moves most place old new ends noted goes within so_far.noted takes notes;
}

pub all_explored : {P : Type 0} (moves : P → ℕ → Option P) (start : P) (most place : ℕ) (met : List (Met P)) (ends : List ℕ) → length met ≤ place →
    SoFar moves start most place met ends → IsExplored moves start (record { met = met; ends = ends })
all_explored moves start most place met ends all so_far =
    let searched = so_far.searched in
    let has_start : Has met start = record { place = 0; entry = record { position = start; by = None }; stands = searched.begun; is = refl } in
    record {
      begun = searched.begun;
      traced = searched.traced;
      sound = λ k m at. let o = searched.order_of k m at in (o.order, o.leads);
      complete = λ p reached. closed_leads moves (Has met) (λ x y n has goes.
          let within : has.place < place = omega (arith, slice_get_within met has.place has.entry has.stands, all) in
          searched.closed has.place n has.entry y (inl within) has.stands (subst (λ z. moves z n ≡ Some y) (sym has.is) goes)) start p reached.0 has_start
          reached.1;
      ends = so_far.noted.sound;
      all_ends = λ k at. so_far.noted.complete k (omega (arith, slice_get_within met k at.entry at.stands, all)) at;
    }

-- from a position back to the one from which it was met
pub goes_back : {P : Type 0} (moves : P → ℕ → Option P) (met : List (Met P)) (at : ℕ) (by : Move) (said : Option Move) → AreTraced moves met → at < length met →
    ((m : Met P) → slice_get met at ≡ Some m → said ≡ m.by) → said ≡ Some by → GoesBack moves met at by
goes_back moves met at by said traced within says is =
    let here : (m : _) × (slice_get met at ≡ Some m) = some_there met at within in
    let comes : ComesBy moves met at here.0.position by = subst (λ b. IsTraced moves met at here.0.position b) (sym (says here.0 here.1) ∙ is)
    (traced at here.0 here.1) in
    record {
      before = comes.before;
      within = slice_get_within met by.from comes.entry comes.stands;
      leads = λ place order leads first last at_first at_last. (
        here.0.position,
        subst (λ x. moves x.position by.lane ≡ Some here.0.position)
            (same_some (slice_get met by.from) comes.entry first comes.stands at_first) comes.goes,
        leads here.0 last here.1 at_last,
      );
    }

-- a position that was met by no move is the first
pub from_first : {P : Type 0} (moves : P → ℕ → Option P) (met : List (Met P)) (at place : ℕ) (order : List ℕ) (said : Option Move) → AreTraced moves met →
    at < length met → ((m : Met P) → slice_get met at ≡ Some m → said ≡ m.by) → said ≡ None → LeadsBetween moves met at place order →
    LeadsTo moves met place order
from_first moves met at place order said traced within says is leads =
    let here : (m : _) × (slice_get met at ≡ Some m) = some_there met at within in
    let first : at ≡ 0 = subst (λ b. IsTraced moves met at here.0.position b) (sym (says here.0 here.1) ∙ is) (traced at here.0 here.1) in
    subst (λ k. LeadsBetween moves met k place order) first leads

-- a place stays a place
pub still_within : {P : Type 0} (old new : List (Met P)) (place : ℕ) → Keeps old new → place < length old → place < length new
still_within old new place kept within = let here : (m : _) × (slice_get old place ≡ Some m) = some_there old place within in
    slice_get_within new place here.0 (kept place here.0 here.1)
