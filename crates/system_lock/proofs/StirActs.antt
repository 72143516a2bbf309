-- What an act leaves of those that sleep: all whom it does not stir.
use Rattle.std.proofs.Common.{◌≡◌, ◌≢◌, ◌∙◌, ℕ, ◌==◌, Bool, true, false, cond, List, Option, None, Some, length, refl, ap, sym, subst, eq-eqb}
use Rattle.std.specs.Option.{option_map, option_map_or, is_some}
use Rattle.slots.specs.Slots.{slot}
use Rattle.call_types.specs.declared.act.Act.{Act}
use Rattle.call_types.specs.declared.act.Act.TheVariants as act
use Rattle.call_types.specs.declared.call.Call.{Call}
use Rattle.call_types.specs.declared.outcome.Outcome.{Outcome}
use Rattle.call_types.specs.declared.limits.Bounds.{Bounds}
use Rattle.posix_model.specs.Types.{Errno, Replied, Error}
use Rattle.posix_model.specs.declared.world.World.{World}
use Rattle.posix_model.specs.declared.change.Decided.{Decided}
use Rattle.posix_model.specs.declared.change.Change.{Change}
use Rattle.posix_model.specs.Sweep.{sweep}
use Rattle.posix_model.specs.Change.{changed}
use Rattle.posix_model.specs.Proved.Released.{SweptIsSettled, SettledStays}
use Rattle.posix_model.specs.Proved.Sound.{ActsAreSound}
use Rattle.posix_model.specs.Proved.Whole.{IsWhole}
use Rattle.posix_model.specs.Proved.Laws.{SweepLeaves}
use Rattle.posix_model.specs.Step.{Stepped, decided, can_call, given, comes_to, stepped, step}
use Rattle.posix_model.specs.History.{after_act}
use Rattle.posix_model.specs.Pages.{no_change, decided_by}
use Rattle.posix_model.specs.Join.{join}
use Rattle.posix_model.specs.Attach.{attach}
use Rattle.posix_model.specs.Exit.{exit}
use Rattle.posix_model.specs.Resume.{resume}
use Rattle.system_lock.specs.Proved.Stirred.{pipe_waited, is_on_its, stirred_at, stirred_by, stirred_with, Spares}
use Rattle.system_lock.specs.declared.stirred.Stirred.{Stirred}
use Rattle.system_lock.specs.declared.stirred.Stirred.TheVariants as stirred
use Rattle.system_lock.proofs.StirLaws.{IsSlight, neither, slight_spares}
use Rattle.system_lock.proofs.OwnLaws.{IsOwn, own_pipe, own_live, unpiped}
use Rattle.system_lock.proofs.OwnCalls.{Own, own_page}
use Rattle.system_lock.proofs.StirCalls.{Slight, SlightOrOwn, MaybeSlight, nothing_slight, slight_at, call_slight, resume_slight}

-- where nothing changes
pub same_spares : (bounds : Bounds) (w : World) (s : Stirred) → Spares bounds w w s
same_spares bounds w s = record { ready = λ q apart. refl; pipe = λ q other. refl; live = λ q other there. there }

-- what is known of all acts, and of the world before this one
pub record Grounds (w : World) : Type 0 where
  pub settles : SweptIsSettled
  pub stays : SettledStays
  pub sound : ActsAreSound
  pub leaves : SweepLeaves
  pub swept : sweep w ≡ w
  pub whole : IsWhole w

-- what waits on a pipe may be stirred
no_pipe : (a : ℕ) (x : Option ℕ) → is_on_its (stirred.Anybody a) x ≡ false → x ≡ None
no_pipe a None h = refl
no_pipe a (Some pipe) h = cc

apart : (a q : ℕ) → (a == q) ≡ false → a ≢ q
apart a q h same = let bad : true ≡ false = sym (eq-eqb a q same) ∙ h in cc

-- an act that changes its own process alone stirs none that waits on no pipe, and no other process waits on another pipe after it, or ends
own_spares : (bounds : Bounds) (w : World) → Grounds w → (a : ℕ) (bytes : List ℕ) (c : Change) → IsOwn a c → Spares bounds w (sweep (changed w bytes c))
    (stirred.Anybody a)
own_spares bounds w g a bytes c own = record {
  ready = λ q far.
      let none = neither (a == q) (is_on_its (stirred.Anybody a) (pipe_waited w q)) far in
      let was : pipe_waited w q ≡ None = no_pipe a (pipe_waited w q) none.1 in
      let is : pipe_waited (sweep (changed w bytes c)) q ≡ None = own_pipe g.leaves a w bytes c own g.whole q (apart a q none.0) ∙ was in
      unpiped bounds (sweep (changed w bytes c)) q is ∙ sym (unpiped bounds w q was);
  pipe = λ q other. own_pipe g.leaves a w bytes c own g.whole q (apart a q other);
  live = λ q other there. own_live g.leaves a w bytes c own q (apart a q other) there;
}

-- an act whose change is slight, or changes its own process alone
pub act_spares : (bounds : Bounds) (w : World) → Grounds w → (actor : ℕ) (a : Act) (s : Stirred) →
    ((d : Decided) → comes_to bounds w actor a ≡ Some d → SlightOrOwn s d) →
    Spares bounds w (after_act bounds w actor a) s
act_spares bounds w g actor a s all = at (comes_to bounds w actor a) refl
  where
    slight : (s : Stirred) (d : Decided) → comes_to bounds w actor a ≡ Some d → SlightOrOwn s d → Spares bounds w (sweep (changed w (given a) d.change)) s
    slight (stirred.Anybody process) d is h = own_spares bounds w g process (given a) d.change h.change
    slight stirred.Nobody d is h = slight_spares g.settles g.stays stirred.Nobody bounds w (given a) d.change g.swept h
        ((g.sound bounds w actor a d is).fits g.whole)
    slight (stirred.Around process pipe) d is h =
        slight_spares g.settles g.stays (stirred.Around process pipe) bounds w (given a) d.change g.swept h ((g.sound bounds w actor a d is).fits g.whole)

    at : (found : Option Decided) → comes_to bounds w actor a ≡ found →
        Spares bounds w (option_map_or (λ x. x.world) (option_map (stepped w (given a)) found) w) s
    at None is = same_spares bounds w s
    at (Some d) is = slight s d is (all d is)

-- of a call that may be made, what it comes to
pub comes_of : (b : Bool) (x d : Decided) → cond b (Some x) None ≡ Some d → x ≡ d
comes_of true x d h = cc
comes_of false x d h = cc

-- what is decided is what is told
told_of : (w : World) (bytes : List ℕ) (found : Option Decided) (d : Decided) (o : Outcome) → found ≡ Some d →
    option_map (λ (s : Stepped). s.outcome) (option_map (stepped w bytes) found) ≡ Some o → d.outcome ≡ o
told_of w bytes None d o is h = cc
told_of w bytes (Some x) d o is h = let same : x ≡ d = cc in let told : x.outcome ≡ o = cc in sym (ap (λ (y : Decided). y.outcome) same) ∙ told

-- an opening, and an exit
pub join_spares : (bounds : Bounds) (w : World) → Grounds w → (actor : ℕ) → Spares bounds w (after_act bounds w actor act.Join) (stirred.Anybody actor)
join_spares bounds w g actor =
    act_spares bounds w g actor act.Join (stirred.Anybody actor)
    (λ d is. subst (Own actor) (comes_of (actor == length w.processes) (decided_by (join w)) d is)
    (own_page actor (join w) (record { change = record { process = tt; table = tt } })))

pub attach_spares : (bounds : Bounds) (w : World) → Grounds w → (actor : ℕ) → Spares bounds w (after_act bounds w actor act.Attach) (stirred.Anybody actor)
attach_spares bounds w g actor =
    act_spares bounds w g actor act.Attach (stirred.Anybody actor)
    (λ d is. subst (Own actor) (comes_of true (decided_by (attach w actor)) d is)
    (own_page actor (attach w actor) (record { change = record { process = refl; table = tt } })))

pub exit_spares : (bounds : Bounds) (w : World) → Grounds w → (actor : ℕ) → Spares bounds w (after_act bounds w actor act.Exit) (stirred.Anybody actor)
exit_spares bounds w g actor =
    act_spares bounds w g actor act.Exit (stirred.Anybody actor)
    (λ d is. subst (Own actor) (comes_of (is_some (slot w.processes actor)) (exit actor) d is) (record { change = record { process = refl; table = tt } }))

-- an error stirs nobody, and any other outcome whom its call may stir
by_outcome : (s : Stirred) (d : Decided) (o : Outcome) → ((error : Errno) → o ≡ Replied (Error error) → d.change ≡ no_change) → SlightOrOwn s d →
    SlightOrOwn (stirred_with o s) d
by_outcome s d (Replied (Error error)) refused h = subst (IsSlight stirred.Nobody) (sym (refused error refl)) (nothing_slight stirred.Nobody)
by_outcome s d other refused h = h

pub call_spares : (bounds : Bounds) (w : World) → Grounds w → (process : ℕ) (c : Call) (o : Outcome) →
    option_map (λ (s : Stepped). s.outcome) (step bounds w process (act.Call c)) ≡ Some o →
    Spares bounds w (after_act bounds w process (act.Call c)) (stirred_with o (stirred_by w process c))
call_spares bounds w g process c o told =
    act_spares bounds w g process (act.Call c) (stirred_with o (stirred_by w process c))
    (λ d is.
    let same : decided bounds w process c ≡ d = comes_of (can_call (slot w.processes process)) (decided bounds w process c) d is in
    let slight : SlightOrOwn (stirred_by w process c) d = subst (SlightOrOwn (stirred_by w process c)) same (call_slight bounds w process c) in
    by_outcome (stirred_by w process c) d o
    (λ error e. (g.sound bounds w process (act.Call c) d is).refusal refl error
    (told_of w (given (act.Call c)) (comes_to bounds w process (act.Call c)) d o is told ∙ e)) slight)

-- a resume stirs its own process and those on its pipe
if_any : (s : Stirred) (found : Option Decided) (d : Decided) → found ≡ Some d → MaybeSlight s found → Slight s d
if_any s None d is h = cc
if_any s (Some x) d is h = let same : x ≡ d = cc in subst (Slight s) same h

pub resume_spares : (bounds : Bounds) (w : World) → Grounds w → (process : ℕ) → Spares bounds w (after_act bounds w process act.Resume)
    (stirred_at process (pipe_waited w process))
resume_spares bounds w g process =
    let x = pipe_waited w process in
    act_spares bounds w g process act.Resume (stirred_at process x)
    (λ d is. slight_at process x d (if_any (stirred_at process x) (resume bounds w process) d is (resume_slight bounds w process)))
