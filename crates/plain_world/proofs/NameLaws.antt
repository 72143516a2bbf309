-- What link, unlink and rename do to names.
use Rattle.std.proofs.Common.{◌≡◌, ◌≢◌, ◌∙◌, ℕ, true, List, [], ◌∷◌, ◌++◌, Option, None, Some, refl, ap, sym, eq-eqb, eqb-true}
use Rattle.std.proofs.lemmas.Cmp.{nat_list_cmp_total}
use Rattle.std.specs.FinMap.Entries.{find-put}
use Rattle.std.specs.Option.{is_some, unwrap_or}
use Rattle.std.specs.Ordering.{nat_cmp}
use Rattle.std.specs.Cmp.Lexicographic.{slice_cmp}
use Rattle.call_types.specs.Names.{Entries, file_of, with_name, without_name}
use Rattle.posix_model.specs.Change.{changed}
use Rattle.posix_model.specs.Pages.{first_fault, tells, does}
use Rattle.posix_model.specs.Open.{name_faults}
use Rattle.posix_model.specs.Link.{linked_faults, link}
use Rattle.posix_model.specs.Unlink.{unlink}
use Rattle.posix_model.specs.Rename.{leads_to, rename_faults, rename_at, rename}
use Rattle.posix_model.specs.declared.change.NameEdit.TheVariants as on_names
use Rattle.posix_model.specs.declared.change.FileEdit.TheVariants as on_files
use Rattle.posix_model.specs.declared.change.TableEdit.TheVariants as on_table
use Rattle.plain_world.specs.Proved.Types.{World, Replied, Done, ENOENT}
use Rattle.plain_world.specs.Proved.NameLaws.{Linked, Unlinked, Renamed, LinkNames, UnlinkNames, RenameNames, RenameOfOneFile}
use Rattle.posix_model.proofs.PageLaws.{page_has, if_has}
use Rattle.posix_model.proofs.NameLemmas.{ties, apart, gone_name, other_name}
use Rattle.plain_world.proofs.PageLemmas.{no_fault_after}

-- a name leads to the file that it was given
pub named_file : (name : List ℕ) (file : ℕ) (es : Entries) → file_of name (with_name name file es) ≡ Some file
named_file name file es = find-put (slice_cmp nat_cmp) nat_list_cmp_total name name file es ∙ rw (ties name) refl

-- so each leads where it led
other_file : (name new : List ℕ) (f : ℕ) (es : Entries) → name ≢ new → file_of name (with_name new f es) ≡ file_of name es
other_file name new f es other = find-put (slice_cmp nat_cmp) nat_list_cmp_total name new f es ∙ rw (apart name new other) refl

linked : (w : World) (old new : List ℕ) (found : Option ℕ) → file_of old w.names ≡ found → first_fault (linked_faults w new found) ≡ None →
    Linked w (changed w [] (does Done (on_files.Names (on_names.Add new (unwrap_or found 0))) on_table.Nothing).change) old new
linked w old new None is free = cc
linked w old new (Some f) is free = record {
  there = ap is_some is;
  leads = named_file new f w.names ∙ sym is;
  others = λ name other. other_file name new f w.names other;
  alone = record { files = refl; pipes = refl; descriptions = refl; processes = refl };
}

pub link_names : LinkNames
link_names bounds w p old new told =
    let found = file_of old w.names in
    page_has (λ d. d.outcome ≡ Replied Done → Linked w (changed w [] d.change) old new) (link w old new) (λ error refused. cc)
    (λ free _. linked w old new found refl (no_fault_after (name_faults new) (linked_faults w new found)
    (no_fault_after (name_faults old) (name_faults new ++ linked_faults w new found) free))) told

pub unlink_names : UnlinkNames
unlink_names bounds w p name told =
    page_has (λ d. d.outcome ≡ Replied Done → Unlinked w (changed w [] d.change) name) (unlink w name) (λ error refused. cc)
    (λ free _. record {
      gone = gone_name name w.names;
      others = λ other differs. other_name name other w.names (λ same. differs (sym same));
      alone = record { files = refl; pipes = refl; descriptions = refl; processes = refl };
    }) told

-- what leads to a file leads to it
at_file : (f : ℕ) (x : Option ℕ) → leads_to f x ≡ true → x ≡ Some f
at_file f None h = cc
at_file f (Some g) h = ap Some (eqb-true g f h)

renamed : (w : World) (old new : List ℕ) (f : ℕ) → file_of old w.names ≡ Some f → old ≢ new →
    Renamed w (changed w [] (does Done (on_files.Names (on_names.Move old new)) on_table.Nothing).change) old new
renamed w old new f is differs =
    let fewer = without_name new w.names in
    let left = without_name old fewer in
    let g = unwrap_or (file_of old w.names) 0 in
    record {
      leads = named_file new g left ∙ rw is refl;
      gone = other_file old new g left differs ∙ gone_name old fewer;
      others = λ name from_old from_new. other_file name new g left from_new ∙
          (other_name old name fewer (λ same. from_old (sym same)) ∙ other_name new name w.names (λ same. from_new (sym same)));
      alone = record { files = refl; pipes = refl; descriptions = refl; processes = refl };
    }

rename_found : (w : World) (old new : List ℕ) (found : Option ℕ) → file_of old w.names ≡ found → first_fault (rename_faults old new found) ≡ None →
    file_of new w.names ≢ file_of old w.names →
    Renamed w (changed w [] (rename_at w old new found).effect.change) old new
rename_found w old new None is free apart_files =
    let none = no_fault_after (name_faults new) ((true, ENOENT) ∷ []) (no_fault_after (name_faults old) (name_faults new ++ (true, ENOENT) ∷ []) free) in
    cc
rename_found w old new (Some f) is free apart_files =
    let differs : old ≢ new = λ same. apart_files (ap (λ name. file_of name w.names) (sym same)) in
    if_has (λ d. Renamed w (changed w [] d.change) old new) (leads_to f (file_of new w.names)) (tells Done)
    (does Done (on_files.Names (on_names.Move old new)) on_table.Nothing)
    (λ there. absurd (apart_files (at_file f (file_of new w.names) there ∙ sym is))) (λ _. renamed w old new f is differs)

pub rename_names : RenameNames
rename_names bounds w p old new apart_files told =
    page_has (λ d. d.outcome ≡ Replied Done → Renamed w (changed w [] d.change) old new) (rename w old new) (λ error refused. cc)
    (λ free _. rename_found w old new (file_of old w.names) refl free apart_files) told

-- of two names of one file
one_file : (w : World) (old new : List ℕ) (found : Option ℕ) → file_of old w.names ≡ found → file_of new w.names ≡ found →
    first_fault (rename_faults old new found) ≡ None →
    changed w [] (rename_at w old new found).effect.change ≡ w
one_file w old new None is at free =
    let none = no_fault_after (name_faults new) ((true, ENOENT) ∷ []) (no_fault_after (name_faults old) (name_faults new ++ (true, ENOENT) ∷ []) free) in
    cc
one_file w old new (Some f) is at free =
    let there : leads_to f (file_of new w.names) ≡ true = ap (leads_to f) at ∙ eq-eqb f f refl in
    rw there refl

pub rename_of_one_file : RenameOfOneFile
rename_of_one_file bounds w p old new same =
    page_has (λ d. changed w [] d.change ≡ w) (rename w old new) (λ error. refl) (λ free. one_file w old new (file_of old w.names) refl same free)
