use Rattle.std.proofs.Common.{rules, ◌≡◌, ◌∙◌, ◌==◌, ◌++◌, ◌∷◌, [], ℕ, false, ap, sym, subst, set, Some, length, refl}
use Rattle.std.specs.List.{slice_get}
use Rattle.std.proofs.lemmas.Option.{slice_get_read, slice_get_within}
use Rattle.race_outcomes.specs.declared.lanes.Lane.{Lane}
use Rattle.race_outcomes.specs.Lanes.{AreOfDifferent, IsFirstOf, longer, with_call}
use Rattle.race_outcomes.proofs.PlaceLemmas.{same_some}
use Rattle.race_outcomes.proofs.LaneLemmas.{with_call_new, with_call_there, still_different, one_more_different}
use Rattle.race_outcomes.proofs.lanes.Lanes.add_call.Goals as goal

pub invariant_of-self : goal.invariant_of-self
invariant_of-self c =
    let first : IsFirstOf c.args.actor c.self.inside.lanes.items c.in-Some.place = search rules in
    let at : slice_get c.self.inside.lanes.items c.in-Some.place ≡ Some c.index_mut.result.now =
    slice_get_read c.self.inside.lanes.items (length c.self.inside.lanes.items) c.in-Some.place c.index_mut.result.now refl
    (slice_get_within c.self.inside.lanes.items c.in-Some.place first.lane first.stands) (search rules) in
    still_different c.self.inside.lanes.items c.in-Some.place c.index_mut.result.now
    (record { actor = c.index_mut.result.now.actor; calls = c.push.new.self }) at refl c.self.invariant

pub invariant_of-self-in-Continue-branch-3 : goal.invariant_of-self-in-Continue-branch-3
invariant_of-self-in-Continue-branch-3 c =
    let none : (k : ℕ) (other : Lane) → slice_get c.self.inside.lanes.items k ≡ Some other → (other.actor == c.args.actor) ≡ false = search rules in
    let lane : c.in_ok-lane-in-None.lane ≡ record { actor = c.args.actor; calls = c.args.call ∷ [] } = search rules in
    let items : c.push-in-None.new.self.items ≡ c.self.inside.lanes.items ++ record { actor = c.args.actor; calls = c.args.call ∷ [] } ∷ [] =
    c.in_ok-push-in-None.ensures.items ∙ ap (λ l. c.self.inside.lanes.items ++ l ∷ []) lane in
    subst (λ xs. AreOfDifferent xs) (sym items) (one_more_different c.self.inside.lanes.items (record { actor = c.args.actor; calls = c.args.call ∷ [] }) none
    c.self.invariant)

pub returns-in_ok-push-in-Some-clause-ok : goal.returns-in_ok-push-in-Some-clause-ok
returns-in_ok-push-in-Some-clause-ok c =
    let first : IsFirstOf c.args.actor c.self.inside.lanes.items c.in-Some.place = search rules in
    let at : slice_get c.self.inside.lanes.items c.in-Some.place ≡ Some c.index_mut.result.now =
    slice_get_read c.self.inside.lanes.items (length c.self.inside.lanes.items) c.in-Some.place c.index_mut.result.now refl
    (slice_get_within c.self.inside.lanes.items c.in-Some.place first.lane first.stands) (search rules) in
    let same : c.index_mut.result.now ≡ first.lane = same_some (slice_get c.self.inside.lanes.items c.in-Some.place) c.index_mut.result.now
    first.lane at first.stands in
    let lane : record { actor = c.index_mut.result.now.actor; calls = c.push.new.self } ≡ longer first.lane c.args.call =
    ap (λ calls. record { actor = c.index_mut.result.now.actor; calls = calls }) c.in_ok-push-in-Some.ensures.ok ∙ ap (λ l. longer l c.args.call) same in
    ap (λ l. set c.self.inside.lanes.items c.in-Some.place l) lane
    ∙ sym (with_call_there c.args.actor c.args.call c.self.inside.lanes.items c.in-Some.place first)
    ∙ ap (λ ls. with_call c.args.actor c.args.call ls) (search rules)

pub returns-in_ok-push-in-None-clause-ok : goal.returns-in_ok-push-in-None-clause-ok
returns-in_ok-push-in-None-clause-ok c =
    let none : (k : ℕ) (other : Lane) → slice_get c.self.inside.lanes.items k ≡ Some other → (other.actor == c.args.actor) ≡ false = search rules in
    let lane : c.in_ok-lane-in-None.lane ≡ record { actor = c.args.actor; calls = c.args.call ∷ [] } = search rules in
    c.in_ok-push-in-None.ensures.items
    ∙ ap (λ l. c.self.inside.lanes.items ++ l ∷ []) lane
    ∙ sym (with_call_new c.args.actor c.args.call c.self.inside.lanes.items none)
    ∙ ap (λ ls. with_call c.args.actor c.args.call ls) (search rules)
