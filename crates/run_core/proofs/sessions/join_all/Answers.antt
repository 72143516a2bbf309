use Rattle.std.proofs.Common.{ℕ, ◌∙◌, ◌++◌, arith, rules, ap, sym, map-id, List}
use Rattle.std.proofs.lemmas.Iterator.Adapters.{YieldsList-from_vec}
use Rattle.std.proofs.lemmas.Iterator.Consumers.{YieldsList-end}
use Rattle.std.proofs.lemmas.List.{append-nil}
use Rattle.byte_ledger.specs.Counted.{Counted}
use Rattle.run_core.specs.Run.{streams}
use Rattle.session_core.specs.Served.{SessionState, failures_after}
use Rattle.session_core.specs.declared.end.End.{End}
use Rattle.run_core.proofs.StarterLemmas.{absorbed, none_counted}
use Rattle.run_core.proofs.JoinLemmas.{joined_all, joined_next, joined_none, none_shut, shares_some, shares_none, shut_next}
use Rattle.run_core.proofs.sessions.join_all.Goals as goal

-- none was joined
pub loop-thread-init : goal.loop-thread-init
loop-thread-init g c = record {
  count = search rules;
  room = search rules;
  shares_room = search rules;
  joined = λ h p. joined_none g.L.Ledgers.limits h g.G.Gate.is_open c.args.room.sessions.items c.args.room.shares.items (sym c.args.room.sessions.ok.0 ∙
      c.requires.empty) (sym c.args.room.shares.ok.0 ∙ c.requires.no_shares);
  starts = none_counted c.args.room.sessions.items (g.T.Starter.failures c.args.starter.now) (sym c.args.room.sessions.ok.0 ∙ c.requires.empty);
  shut = none_shut g.W.Connection.was_shut c.args.room.sessions.items (sym c.args.room.sessions.ok.0 ∙ c.requires.empty);
  goes = search rules;
  ends = search rules;
}

-- one session more was served, and one fewer is left, with shares or without
pub loop-thread-preserved-in-Some-counted : goal.loop-thread-preserved-in-Some-counted
loop-thread-preserved-in-Some-counted g c =
    let before = c.loop-thread.invariant in
    let one_fewer = c.in-Some.ensures.steps.1 in
    let one_more = c.push_reserved.ensures.len in
    let same_room = c.push_reserved.ensures.capacity in
    let share_more = c.push_reserved-in-Some-counted.ensures.len in
    let same_share_room = c.push_reserved-in-Some-counted.ensures.capacity in
    record {
      count = let all = before.count in omega arith;
      room = let room = before.room in omega arith;
      shares_room = let room = before.shares_room in omega arith;
      joined = λ h p. joined_next g.L.Ledgers.limits h g.G.Gate.is_open (λ thread. g.R.Read.remaining thread.promise.reader.value)
          (λ thread. g.W.Write.contents thread.promise.writer.value) c.loop-thread.yielded c.in-Some.thread c.loop-thread.sessions.items _
          c.loop-thread.shares.items _ c.join-served.result.served.seat c.part-session.result.0 _
          (before.joined h (c.catch_up.ensures.own h p)) c.part-session.ensures.process c.in-Some.thread.promise.blank c.part-session.ensures.own
          c.part-session.ensures.session (c.join-served.ensures.0.serves h (c.catch_up.ensures.others h p)) c.push_reserved.ensures.items
          (c.push_reserved-in-Some-counted.ensures.items ∙ ap (λ (l : List Counted). c.loop-thread.shares.items ++ l)
          (sym (shares_some c.join-served.result.served.seat c.part-session.result.1 c.in-Some-counted.counted c.part-session.ensures.shares
          c.in-Some-counted.is)));
      starts = absorbed c.loop-thread.sessions.items _ c.part-session.result.0 (g.T.Starter.failures c.args.starter.now)
          (g.T.Starter.failures c.loop-thread.starter) (g.T.Starter.failures c.join-served.result.starter) (g.T.Starter.failures c.absorb.new.self)
          before.starts c.absorb.ensures (c.join-served.ensures.1 ∙
          ap (λ (n : ℕ). failures_after c.join-served.result.served.end_is n) c.in-Some.thread.promise.fresh ∙
          ap (λ (e : End). failures_after e 0) (sym (ap (λ (s : SessionState). s.end_is) c.part-session.ensures.session))) c.push_reserved.ensures.items;
      shut = shut_next g.W.Connection.was_shut c.loop-thread.sessions.items _ c.join-served.result.served.seat c.part-session.result.0
          c.join-served.result.served before.shut c.part-session.ensures.session c.join-served.ensures.2 c.push_reserved.ensures.items;
      goes = search rules;
      ends = search rules;
    }

pub loop-thread-preserved : goal.loop-thread-preserved
loop-thread-preserved g c =
    let before = c.loop-thread.invariant in
    let one_fewer = c.in-Some.ensures.steps.1 in
    let one_more = c.push_reserved.ensures.len in
    let same_room = c.push_reserved.ensures.capacity in
    record {
      count = let all = before.count in omega arith;
      room = let room = before.room in omega arith;
      shares_room = let room = before.shares_room in omega arith;
      joined = λ h p. joined_next g.L.Ledgers.limits h g.G.Gate.is_open (λ thread. g.R.Read.remaining thread.promise.reader.value)
          (λ thread. g.W.Write.contents thread.promise.writer.value) c.loop-thread.yielded c.in-Some.thread c.loop-thread.sessions.items _
          c.loop-thread.shares.items _ c.join-served.result.served.seat c.part-session.result.0 _
          (before.joined h (c.catch_up.ensures.own h p)) c.part-session.ensures.process c.in-Some.thread.promise.blank c.part-session.ensures.own
          c.part-session.ensures.session (c.join-served.ensures.0.serves h (c.catch_up.ensures.others h p)) c.push_reserved.ensures.items
          (sym (append-nil c.loop-thread.shares.items) ∙ ap (λ (l : List Counted). c.loop-thread.shares.items ++ l)
          (sym (shares_none c.join-served.result.served.seat c.part-session.result.1 c.part-session.ensures.shares c.in-None-counted.is)));
      starts = absorbed c.loop-thread.sessions.items _ c.part-session.result.0 (g.T.Starter.failures c.args.starter.now)
          (g.T.Starter.failures c.loop-thread.starter) (g.T.Starter.failures c.join-served.result.starter) (g.T.Starter.failures c.absorb.new.self)
          before.starts c.absorb.ensures (c.join-served.ensures.1 ∙
          ap (λ (n : ℕ). failures_after c.join-served.result.served.end_is n) c.in-Some.thread.promise.fresh ∙
          ap (λ (e : End). failures_after e 0) (sym (ap (λ (s : SessionState). s.end_is) c.part-session.ensures.session))) c.push_reserved.ensures.items;
      shut = shut_next g.W.Connection.was_shut c.loop-thread.sessions.items _ c.join-served.result.served.seat c.part-session.result.0
          c.join-served.result.served before.shut c.part-session.ensures.session c.join-served.ensures.2 c.push_reserved.ensures.items;
      goes = search rules;
      ends = search rules;
    }

pub returns-clause-joined : goal.returns-clause-joined
returns-clause-joined g c h p =
    let all = YieldsList-from_vec c.args.running.items c.into_iter-thread-iterator.ensures.into_iter_gives.0
    (c.into_iter-thread-iterator.ensures.into_iter_gives.1 ∙ c.args.running.ok.0) in
    let end = YieldsList-end all c.loop-thread.yielded c.loop-thread.thread-iterator c.loop-thread.yielded_by c.next.result c.next.new.self c.in-None.is
    c.next.ensures.steps in
    joined_all g.L.Ledgers.limits h g.G.Gate.is_open (λ thread. streams (g.R.Read.remaining thread.promise.reader.value)
    (g.W.Write.contents thread.promise.writer.value)) c.loop-thread.yielded c.args.running.items _ _ (sym (map-id c.loop-thread.yielded) ∙ end.0)
    (c.loop-thread.invariant.joined h p)
