-- What a run left that gives no report.
use Rattle.std.proofs.Common.{◌≡◌, ℕ, ◌+◌, Bool, List, [], ◌∷◌, Option, None, Some, length, suc, refl, sym, ap, subst, ◌∙◌}
use Rattle.std.specs.List.{AllZip, cons_option, filter_map}
use Rattle.std.specs.Option.{option_map}
use Rattle.byte_ledger.specs.Counted.{Counted}
use Rattle.call_types.specs.declared.act.Record.{Record}
use Rattle.call_types.specs.declared.limits.Limits.{Limits}
use Rattle.frame_codec.specs.Trace.{told_of}
use Rattle.record_book.specs.Seat.{SeatState}
use Rattle.run_core.specs.Receipts.{Held}
use Rattle.run_core.specs.Run.{Connection, GivesConnections, ReportedSession, ServesConnection, ServesEach, Streams, counted_by, held_in}
use Rattle.run_core.specs.Traced.{IsTold}
use Rattle.run_core.specs.Unreported.{IsLeft, IsNoWant, LeftTold, UnreportedFor, held_of}
use Rattle.run_core.specs.Proved.Joining.{HasEnded}
use Rattle.run_core.specs.declared.report.RunFault.{RunFault}
use Rattle.run_core.specs.declared.sessions.Want.{Want}

-- a session has a process where its connection has a seat
one_along : (seat : Option SeatState) (process : Option Held) (xs : List Counted) (ys : List Held) → process ≡ option_map held_in seat → length xs ≡ length ys
    → length (cons_option (option_map (λ (s : SeatState). s.counted) seat) xs) ≡ length (cons_option process ys)
one_along None process xs ys is same = rw is same
one_along (Some seat) process xs ys is same = rw is (ap suc same)

-- the seats of connections are as many as the processes of the sessions that served them
seats_along : (limits : Option Limits) (h : List Record) (always : Bool) (cs : List Connection) (ss : List ReportedSession) →
    AllZip (ServesConnection limits h always) cs ss → length (counted_by cs) ≡ length (filter_map (λ (s : ReportedSession). s.process) ss)
seats_along limits h always [] [] all = refl
seats_along limits h always [] (s ∷ ss) all = absurd all
seats_along limits h always (c ∷ cs) [] all = absurd all
seats_along limits h always (c ∷ cs) (s ∷ ss) all = one_along c.seat s.process (counted_by cs) (filter_map (λ (s : ReportedSession). s.process) ss)
    all.0.process_is (seats_along limits h always cs ss all.1)

-- what these sessions, their closing and their trace left
pub left_is : (told : LeftTold) (why : RunFault) (limits : Option Limits) (lacked : Option Want) (shares : List Counted) → limits ≡ Some told.limits_are
    → HasEnded told.always limits lacked told.coming told.later told.book told.house told.ends shares
    → IsTold (told_of told.limits_are) told.trace told.received
    → (IsNoWant why → lacked ≡ None)
    → UnreportedFor told.book (length shares + 1) (held_of told) told.trace.fault told.received why
    → IsLeft told why
left_is told why limits lacked shares within ended written none reason =
    let seats = ap length ended.joined.shares_are ∙ seats_along limits told.book.history told.always ended.joined.connections told.ends ended.joined.each in
    record {
      connections = ended.joined.connections;
      gives = λ no_want. subst (λ (ts : List Streams). GivesConnections told.coming told.later ts) (sym ended.joined.told_are) (ended.gives (none no_want));
      each = subst (λ (l : Option Limits). ServesEach l told.book.history told.always ended.joined.connections told.ends) within ended.joined.each;
      before = ended.before;
      limits_are = (let known = ended.limits_are in let given = ended.closing.limits_are in cc);
      closing = ended.closing;
      trace = written;
      reason = subst (λ (n : ℕ). UnreportedFor told.book (n + 1) (held_of told) told.trace.fault told.received why) seats reason;
    }
