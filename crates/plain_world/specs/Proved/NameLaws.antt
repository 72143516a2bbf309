-- What holds of names, in words that the pages use.
use Rattle.std.specs.Prelude.{◌≡◌, ◌≢◌, ℕ, true, List, None, is_some}
use Rattle.call_types.specs.Names.{file_of}
use Rattle.plain_world.specs.Proved.Types.{Bounds, World, Replied, Done}
use Rattle.call_types.specs.declared.call.Call.TheVariants as call
use Rattle.plain_world.specs.Proved.Calls.{outcome_of, before_sweep}

-- the second world has other names, and everything else of the first
pub record NamesAlone (w v : World) : Type 0 where
  pub files : v.files ≡ w.files
  pub pipes : v.pipes ≡ w.pipes
  pub descriptions : v.descriptions ≡ w.descriptions
  pub processes : v.processes ≡ w.processes

-- both names lead to one file, which the old one led to, and every other name leads where it led
pub record Linked (w v : World) (old new : List ℕ) : Type 0 where
  pub there : is_some (file_of old w.names) ≡ true
  pub leads : file_of new v.names ≡ file_of old w.names
  pub others : (name : List ℕ) → name ≢ new → file_of name v.names ≡ file_of name w.names
  pub alone : NamesAlone w v

-- the name leads nowhere, and every other name leads where it led
pub record Unlinked (w v : World) (name : List ℕ) : Type 0 where
  pub gone : file_of name v.names ≡ None
  pub others : (other : List ℕ) → other ≢ name → file_of other v.names ≡ file_of other w.names
  pub alone : NamesAlone w v

-- a link that is not refused gives the file of the old name the new one too, and changes nothing else (page of link)
abbrev pub LinkNames : Type 0
LinkNames = (bounds : Bounds) (w : World) (process : ℕ) (old new : List ℕ) → outcome_of bounds w process (call.Link old new) ≡ Replied Done →
    Linked w (before_sweep bounds w process (call.Link old new)) old new

-- an unlink that is not refused takes just its name away: what is open stays as it was, with its bytes (page of unlink)
abbrev pub UnlinkNames : Type 0
UnlinkNames = (bounds : Bounds) (w : World) (process : ℕ) (name : List ℕ) → outcome_of bounds w process (call.Unlink name) ≡ Replied Done →
    Unlinked w (before_sweep bounds w process (call.Unlink name)) name

-- the new name leads where the old one led, the old one leads nowhere, and every other name leads where it led
pub record Renamed (w v : World) (old new : List ℕ) : Type 0 where
  pub leads : file_of new v.names ≡ file_of old w.names
  pub gone : file_of old v.names ≡ None
  pub others : (name : List ℕ) → name ≢ old → name ≢ new → file_of name v.names ≡ file_of name w.names
  pub alone : NamesAlone w v

-- a rename that is not refused, of a name to one that does not lead to the same file, moves the name and changes nothing else; what
-- the new name led to has one name less (page of rename)
abbrev pub RenameNames : Type 0
RenameNames = (bounds : Bounds) (w : World) (process : ℕ) (old new : List ℕ) → file_of new w.names ≢ file_of old w.names →
    outcome_of bounds w process (call.Rename old new) ≡ Replied Done →
    Renamed w (before_sweep bounds w process (call.Rename old new)) old new

-- and of two names of one file changes nothing (page of rename)
abbrev pub RenameOfOneFile : Type 0
RenameOfOneFile = (bounds : Bounds) (w : World) (process : ℕ) (old new : List ℕ) → file_of new w.names ≡ file_of old w.names →
    before_sweep bounds w process (call.Rename old new) ≡ w
