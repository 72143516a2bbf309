use Rattle.std.proofs.Common.{◌≡◌, ◌∙◌, ℕ, ap, sym}
use Rattle.std.specs.Option.{is_some, unwrap_or}
use Rattle.call_types.specs.Names.{Entries, file_of, with_name, without_name, with_moved_name}
use Rattle.posix_model.specs.Counts.{links}
use Rattle.posix_model.specs.Sweep.{sweep}
use Rattle.posix_model.proofs.NameLemmas.{gone_name, other_name}
use Rattle.machine_state.specs.Proved.Types.{World}
use Rattle.machine_state.proofs.machine.Machine.rename.Goals as goal

pub move_name-requires-clause-there : goal.move_name-requires-clause-there
move_name-requires-clause-there c =
    let w = c.args.self.now.world in
    let freed = c.free_name.ensures.world ∙ ap (λ n. sweep (record w { names = without_name n w.names })) c.as_slice.ensures.value in
    let names : c.free_name.new.self.world.names ≡ without_name c.args.new w.names = ap (λ (x : World). x.names) freed in
    ap (λ es. is_some (file_of c.args.old.now es)) names ∙ (ap is_some (other_name c.args.new c.args.old.now w.names (λ same. c.requires.apart (sym same))) ∙
    c.requires.there)

pub move_name-requires-clause-new : goal.move_name-requires-clause-new
move_name-requires-clause-new c =
    let w = c.args.self.now.world in
    let freed = c.free_name.ensures.world ∙ ap (λ n. sweep (record w { names = without_name n w.names })) c.as_slice.ensures.value in
    let names : c.free_name.new.self.world.names ≡ without_name c.args.new w.names = ap (λ (x : World). x.names) freed in
    ap (λ es. file_of c.args.new es) names ∙ gone_name c.args.new w.names

pub returns-clause-world : goal.returns-clause-world
returns-clause-world c =
    let w = c.args.self.now.world in
    let v = c.free_name.new.self.world in
    let old = c.args.old.now in
    let new = c.args.new in
    let fewer = without_name new w.names in
    let u : World = record w { names = fewer } in
    let ms = with_moved_name old new w.names in
    let freed : v ≡ sweep u = c.free_name.ensures.world ∙ ap (λ n. sweep (record w { names = without_name n w.names })) c.as_slice.ensures.value in
    let before : v.names ≡ fewer = ap (λ (x : World). x.names) freed in
    let after : with_name new (unwrap_or (file_of old v.names) 0) (without_name old v.names) ≡ ms =
    ap (λ es. with_name new (unwrap_or (file_of old es) 0) (without_name old es)) before ∙
    ap (λ x. with_name new (unwrap_or x 0) (without_name old fewer)) (other_name new old w.names (λ same. c.requires.apart (sym same))) in
    let now : c.move_name.new.self.world.names ≡ ms = ap (λ (x : World). x.names) c.move_name.ensures.world ∙ after in
    let same : (g : ℕ) → links ms g ≡ links fewer g = λ g. ap (λ es. links es g) (sym now) ∙ (c.move_name.ensures.links g ∙ ap (λ es. links es g) before) in
    let swept : sweep (record u { names = ms }) ≡ record (sweep u) { names = ms } = c.sweep_releases.ensures.counts u ms same in
    c.move_name.ensures.world ∙ (ap (λ (x : Entries). record v { names = x }) after ∙ (ap (λ (x : World). record x { names = ms }) freed ∙ sym swept))
