-- The receipts that the seats of sessions own in the history of their run are good.
use Rattle.std.proofs.Common.{◌≡◌, ◌<◌, ℕ, Bool, suc, List, [], ◌∷◌, ◌++◌, map, Option, None, Some, length, refl, subst, arith, IfSome, inl, All, AllPairs}
use Rattle.std.specs.List.{AllZip, slice_get}
use Rattle.std.specs.Option.{option_map}
use Rattle.std.proofs.lemmas.List.Elements.{All-head, All-tail}
use Rattle.byte_ledger.specs.Counted.{Counted}
use Rattle.call_types.specs.declared.act.Record.{Record}
use Rattle.call_types.specs.declared.limits.Limits.{Limits}
use Rattle.record_book.specs.Book.{BookState}
use Rattle.record_book.specs.Seat.{Receipted, SeatState}
use Rattle.system_lock.specs.Owns.{OwnsUnder, StandsIn}
use Rattle.run_core.specs.Receipts.{Held, GoodAt, GoodFrom, IsAbove, held_by}
use Rattle.run_core.specs.Run.{Connection, ReportedSession, ServesConnection, Streams, held_in}
use Rattle.run_core.specs.Proved.Joining.{HasEnded}
use Rattle.run_core.specs.declared.sessions.Want.{Want}

-- the record after those before it
next_is : (before rest : List Record) (r : Record) → slice_get ((before ++ r ∷ []) ++ rest) (length before) ≡ Some r
next_is [] rest r = refl
next_is (first ∷ before) rest r = next_is before rest r

stands_at : (h : List Record) (r : Receipted) → StandsIn h r → slice_get h r.place ≡ Some r.record_is
stands_at h r s =
    subst (λ (l : List Record). slice_get l r.place ≡ Some r.record_is) s.begins.1
    (subst (λ (place : ℕ). slice_get ((s.before ++ r.record_is ∷ []) ++ s.begins.0) place ≡ Some r.record_is) s.place_is
    (next_is s.before s.begins.0 r.record_is))

-- receipts of a process, each at its place and above the one before
good_owned : (h : List Record) (pid p : ℕ) (before : Option ℕ) (rs : List Receipted) → All (λ (r : Receipted). r.record_is.actor ≡ pid) rs
    → All (StandsIn h) rs → AllPairs (λ (x y : Receipted). x.place < y.place) rs → All (λ (r : Receipted). IsAbove before r.place) rs
    → GoodFrom h pid p before rs
good_owned h pid p before [] own stand ascend above = tt
good_owned h pid p before (r ∷ rs) own stand ascend above = (
  (λ _. record {
    stands = stands_at h r (All-head (StandsIn h) r rs stand);
    own = inl (All-head (λ (x : Receipted). x.record_is.actor ≡ pid) r rs own);
    above = All-head (λ (x : Receipted). IsAbove before x.place) r rs above;
  }),
  good_owned h pid p (Some r.place) rs (All-tail (λ (x : Receipted). x.record_is.actor ≡ pid) r rs own) (All-tail (StandsIn h) r rs stand)
      (λ i j d first below. ascend (suc i) (suc j) d (omega (arith, first)) (omega (arith, below)))
      (λ k d below. ascend 0 (suc k) d (omega arith) (omega (arith, below))),
)

-- what a session holds, if it has a seat
session_owns : (limits : Limits) (h : List Record) (p : ℕ) (seat : Option SeatState) (process : Option Held) → process ≡ option_map held_in seat
    → IfSome seat (OwnsUnder (Some limits) h) → GoodFrom h (held_by process).pid p None (held_by process).receipts
session_owns limits h p None process is owns = rw is tt
session_owns limits h p (Some s) process is owns =
    rw is (good_owned h s.pid p None s.receipts owns.actors owns.stand owns.ascend (λ k d below. tt))

sessions_own : (limits : Limits) (h : List Record) (always : Bool) (p : ℕ) (cs : List Connection) (ss : List ReportedSession)
    → AllZip (ServesConnection (Some limits) h always) cs ss → GoodAt h p (map (λ (s : ReportedSession). held_by s.process) ss)
sessions_own limits h always p [] [] all = tt
sessions_own limits h always p [] (s ∷ ss) all = absurd all
sessions_own limits h always p (c ∷ cs) [] all = absurd all
sessions_own limits h always p (c ∷ cs) (s ∷ ss) all =
    (session_owns limits h p c.seat s.process all.0.process_is all.0.serves.owns, sessions_own limits h always p cs ss all.1)

-- what sessions hold that have ended
pub ended_own : (always : Bool) (known : Option Limits) (limits : Limits) (lacked : Option Want) (coming later : Option (List Streams)) (book : BookState)
    (house : SeatState) (ends : List ReportedSession) (shares : List Counted) → known ≡ Some limits
    → HasEnded always known lacked coming later book house ends shares
    → (p : ℕ) → GoodAt book.history p (map (λ (s : ReportedSession). held_by s.process) ends)
ended_own always known limits lacked coming later book house ends shares is ended p =
    sessions_own limits book.history always p ended.joined.connections ends
    (subst (λ (l : Option Limits). AllZip (ServesConnection l book.history always) ended.joined.connections ends) is ended.joined.each)
