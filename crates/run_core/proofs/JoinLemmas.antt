-- One session more.
use Rattle.std.proofs.Common.{◌≡◌, ℕ, Bool, List, [], ◌∷◌, ◌++◌, map, Option, None, Some, length, refl, sym, ap, subst, ◌∙◌, append_assoc}
use Rattle.std.specs.List.{AllZip}
use Rattle.std.specs.Option.{option_map}
use Rattle.std.proofs.lemmas.List.{map-append}
use Rattle.std.proofs.lemmas.List.Elements.{filter_map-append}
use Rattle.byte_ledger.specs.Counted.{Counted}
use Rattle.record_book.specs.Seat.{SeatState}
use Rattle.session_core.specs.Served.{SessionState}
use Rattle.call_types.specs.declared.limits.Limits.{Limits}
use Rattle.frame_codec.specs.Trace.{told_of}
use Rattle.run_core.specs.Receipts.{held_by}
use Rattle.run_core.specs.Traced.{TraceTold, IsTold}
use Rattle.record_book.specs.Book.{BookState}
use Rattle.call_types.specs.declared.act.Record.{Record}
use Rattle.run_core.specs.Run.{AreShut, Connection, CountsItsOwn, GivesConnections, IsBlank, IsProcessOf, IsRun, IsRunOf, ReportedSession, RunTold, ServesConnection, ServesEach, ServesInRun, Streams, at_start, counted_by, streams, with_seat}
use Rattle.run_core.specs.Proved.Joining.{HasEnded, IsJoined}
use Rattle.run_core.specs.declared.sessions.Want.{Want}

-- ---- what a source gives

-- connections were given, and then others
gives_more : (a b c : Option (List Streams)) (first next : List Streams) → GivesConnections a b first → GivesConnections b c next →
    GivesConnections a c (first ++ next)
gives_more None b c first next p q = tt
gives_more (Some x) None c first next p q = absurd p
gives_more (Some x) (Some y) None first next p q = absurd q
gives_more (Some x) (Some y) (Some z) first next p q = p ∙ ap (λ l. first ++ l) q ∙ sym (append_assoc first next z)

-- one thread more was started, for the connection that was given next
pub gives_next : {T : Type 0} (connection : T → Streams) (a b c : Option (List Streams)) (items new_items : List T) (t : T)
    → GivesConnections a b (map connection items) → GivesConnections b c (connection t ∷ []) → new_items ≡ items ++ t ∷ [] →
    GivesConnections a c (map connection new_items)
gives_next {T} connection a b c items new_items t first next more =
    let all = gives_more a b c (map connection items) (connection t ∷ []) first next in
    let told = subst (λ (given : List Streams). GivesConnections a c given) (sym (map-append connection items (t ∷ []))) all in
    subst (λ (ts : List T). GivesConnections a c (map connection ts)) (sym more) told

-- ---- what was joined

-- two lists that go along, with one element more each
along_more : {A B : Type 0} (R : A → B → Type 0) (xs : List A) (ys : List B) (x : A) (y : B) → AllZip R xs ys → R x y → AllZip R (xs ++ x ∷ []) (ys ++ y ∷ [])
along_more R [] [] x y all one = (one, tt)
along_more R [] (b ∷ bs) x y all one = absurd all
along_more R (a ∷ others) [] x y all one = absurd all
along_more R (a ∷ others) (b ∷ bs) x y all one = (all.0, along_more R others bs x y all.1 one)

-- the shares of a seat, if there is one
abbrev pub shares_of : Option SeatState → List Counted
shares_of None = []
shares_of (Some seat) = seat.counted ∷ []

pub shares_some : (seat : Option SeatState) (told : Option Counted) (counted : Counted) → told ≡ option_map (λ (s : SeatState). s.counted) seat →
    told ≡ Some counted → shares_of seat ≡ counted ∷ []
shares_some None told counted is some = absurd cc
shares_some (Some seat) told counted is some = let same : seat.counted ≡ counted = cc in ap (λ (c : Counted). c ∷ []) same

pub shares_none : (seat : Option SeatState) (told : Option Counted) → told ≡ option_map (λ (s : SeatState). s.counted) seat → told ≡ None → shares_of seat ≡ []
shares_none None told is none = refl
shares_none (Some seat) told is none = absurd cc

counted_of_one : (c : Connection) (seat : Option SeatState) → c.seat ≡ seat → counted_by (c ∷ []) ≡ shares_of seat
counted_of_one c None is = rw is refl
counted_of_one c (Some seat) is = rw is refl

counted_more : (connections : List Connection) (c : Connection) → counted_by (connections ++ c ∷ []) ≡ counted_by connections ++ shares_of c.seat
counted_more connections c = filter_map-append (λ (c : Connection). option_map (λ (s : SeatState). s.counted) c.seat) connections (c ∷ []) ∙
    ap (λ l. counted_by connections ++ l) (counted_of_one c c.seat refl)

-- one session more, with these shares of its seat
joined_more : (limits : Option Limits) (h : List Record) (always : Bool) (told : List Streams) (sessions : List ReportedSession)
    (shares new_shares : List Counted) (c : Connection) (s : ReportedSession)
    → IsJoined limits h always told sessions shares → ServesConnection limits h always c s → new_shares ≡ shares ++ shares_of c.seat
    → IsJoined limits h always (told ++ at_start c ∷ []) (sessions ++ s ∷ []) new_shares
joined_more limits h always told sessions shares new_shares c s all one are = record {
  connections = all.connections ++ c ∷ [];
  told_are = map-append at_start all.connections (c ∷ []) ∙ ap (λ l. l ++ at_start c ∷ []) all.told_are;
  each = along_more (ServesConnection limits h always) all.connections sessions c s all.each one;
  shares_are = are ∙ (ap (λ l. l ++ shares_of c.seat) all.shares_are ∙ sym (counted_more all.connections c));
}

-- the next thread was joined
-- no session was joined
pub joined_none : (limits : Option Limits) (h : List Record) (always : Bool) (sessions : List ReportedSession) (shares : List Counted) → length sessions ≡ 0 →
    length shares ≡ 0 → IsJoined limits h always [] sessions shares
joined_none limits h always [] [] none also = record { connections = []; told_are = refl; each = tt; shares_are = refl }
joined_none limits h always [] (one ∷ more) none also = absurd cc
joined_none limits h always (one ∷ more) shares none also = absurd cc

pub joined_next : {T : Type 0} (limits : Option Limits) (h : List Record) (always : Bool) (reader writer : T → Option (List ℕ)) (yielded : List T) (thread : T)
    (sessions new_sessions : List ReportedSession) (shares new_shares : List Counted) (seat : Option SeatState) (s : ReportedSession) (served : SessionState)
    → IsJoined limits h always (map (λ t. streams (reader t) (writer t)) yielded) sessions shares → IsProcessOf seat s.process → IsBlank (writer thread) →
    CountsItsOwn seat → with_seat seat s ≡ served → ServesInRun limits h always (reader thread) (writer thread) served
    → new_sessions ≡ sessions ++ s ∷ [] → new_shares ≡ shares ++ shares_of seat
    → IsJoined limits h always (map (λ t. streams (reader t) (writer t)) (yielded ++ thread ∷ [])) new_sessions new_shares
joined_next {T} limits h always reader writer yielded thread sessions new_sessions shares new_shares seat s served those of blank own same serves more
    shares_more =
    let c : Connection = record { from = reader thread; base = writer thread; seat = seat } in
    let one : ServesConnection limits h always c s =
    record { process_is = of; blank = blank; serves = subst (ServesInRun limits h always (reader thread) (writer thread)) (sym same) serves; own = own } in
    let all = joined_more limits h always (map (λ t. streams (reader t) (writer t)) yielded) sessions shares new_shares c s those one shares_more in
    let told = subst (λ (ss : List ReportedSession). IsJoined limits h always (map (λ t. streams (reader t) (writer t)) yielded ++ streams (reader thread)
    (writer thread) ∷ []) ss new_shares) (sym more) all in
    subst (λ (ts : List Streams). IsJoined limits h always ts new_sessions new_shares)
    (sym (map-append (λ (t : T). streams (reader t) (writer t)) yielded (thread ∷ []))) told

-- all threads were joined
pub joined_all : {T : Type 0} (limits : Option Limits) (h : List Record) (always : Bool) (connection : T → Streams) (yielded all : List T)
    (sessions : List ReportedSession) (shares : List Counted)
    → yielded ≡ all → IsJoined limits h always (map connection yielded) sessions shares → IsJoined limits h always (map connection all) sessions shares
joined_all {T} limits h always connection yielded all sessions shares is those =
    subst (λ (ts : List T). IsJoined limits h always (map connection ts) sessions shares) is those

-- ---- what was shut

-- no session is there
pub none_shut : (was_shut : Option (List ℕ) → Type 0) (sessions : List ReportedSession) → length sessions ≡ 0 → AreShut was_shut sessions
none_shut was_shut [] none = tt
none_shut was_shut (one ∷ more) none = absurd cc

shut_more : (was_shut : Option (List ℕ) → Type 0) (sessions : List ReportedSession) (s : ReportedSession) → AreShut was_shut sessions →
    was_shut s.writer.contents → AreShut was_shut (sessions ++ s ∷ [])
shut_more was_shut [] s all one = (one, tt)
shut_more was_shut (first ∷ sessions) s all one = (all.0, shut_more was_shut sessions s all.1 one)

-- the connection of one session more was shut
pub shut_next : (was_shut : Option (List ℕ) → Type 0) (sessions new_sessions : List ReportedSession) (seat : Option SeatState) (s : ReportedSession)
    (served : SessionState)
    → AreShut was_shut sessions → with_seat seat s ≡ served → was_shut served.writer.contents → new_sessions ≡ sessions ++ s ∷ [] →
    AreShut was_shut new_sessions
shut_next was_shut sessions new_sessions seat s served all same one more =
    let own = subst (λ (is : SessionState). was_shut is.writer.contents) (sym same) one in
    subst (AreShut was_shut) (sym more) (shut_more was_shut sessions s all own)

-- ---- the run

-- what was gathered of the seats of these sessions, and of their trace
pub run_of : (told : RunTold) (limits : Option Limits) (lacked : Option Want) (book : BookState) (house : SeatState) (ends : List ReportedSession)
    (shares : List Counted) (received : List Record) (trace : TraceTold)
    → told.ends ≡ ends → told.received ≡ received → told.trace ≡ trace → limits ≡ Some told.limits_are → lacked ≡ None
    → HasEnded told.always limits lacked told.coming told.later book house ends shares
    → IsRunOf book.limits told.records told.taken told.given book house shares (map (λ s. held_by s.process) ends) received
    → IsTold (told_of told.limits_are) trace received
    → IsRun told
run_of told limits lacked book house ends shares received trace those got traced within whole ended run written =
    let same : book.limits ≡ told.limits_are = (let known = ended.limits_are in let given = ended.closing.limits_are in cc) in
    let held = map (λ s. held_by s.process) ends in
    let limited = subst (λ (l : Limits). IsRunOf l told.records told.taken told.given book house shares held received) same run in
    let counted = subst (λ (cs : List Counted). IsRunOf told.limits_are told.records told.taken told.given book house cs held received) ended.joined.shares_are
    limited in
    let of_those = subst (λ (es : List ReportedSession). IsRunOf told.limits_are told.records told.taken told.given book house
    (counted_by ended.joined.connections) (map (λ s. held_by s.process) es) received) (sym those) counted in
    record {
      connections = ended.joined.connections;
      gives = subst (λ (ts : List Streams). GivesConnections told.coming told.later ts) (sym ended.joined.told_are) (ended.gives whole);
      each = subst (λ (es : List ReportedSession). ServesEach (Some told.limits_are) book.history told.always ended.joined.connections es) (sym those)
          (subst (λ (l : Option Limits). ServesEach l book.history told.always ended.joined.connections ends) within ended.joined.each);
      before = ended.before;
      book = book;
      house = house;
      closing = ended.closing;
      run = subst (λ (rs : List Record). IsRunOf told.limits_are told.records told.taken told.given book house (counted_by ended.joined.connections)
          (map (λ s. held_by s.process) told.ends) rs) (sym got) of_those;
      trace = subst (λ (t : TraceTold). IsTold (told_of told.limits_are) t book.history) (sym traced)
          (subst (λ (rs : List Record). IsTold (told_of told.limits_are) trace rs) run.received_are written);
    }
