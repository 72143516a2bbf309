-- The pipes of a machine, as the pipes of its world.
use Rattle.std.proofs.Common.{◌≡◌, ℕ, ◌∙◌, List, Option, None, Some, set, refl, ap, sym}
use Rattle.std.specs.Prelude.{is_some}
use Rattle.std.specs.Option.{option_map}
use Rattle.std.proofs.lemmas.List.{map-set}
use Rattle.std.proofs.Math.Seq.{map-set_same}
use Rattle.std.proofs.Math.ListN.{get_or-map}
use Rattle.slots.specs.Slots.{slot, edited}
use Rattle.posix_model.specs.Descriptors.{pipe_bytes}
use Rattle.machine_state.specs.Proved.Types.{Mode, Used, StoredPipe}
use Rattle.call_types.specs.declared.description.Mode.TheVariants as mode
use Rattle.slots.specs.UsedSlots.{value_at, values_in}
use Rattle.slots.specs.Proved.Uses.{with_value}
use Rattle.pipe_table.specs.Blocks.{block_in, block_slots}
use Rattle.pipe_table.specs.Proved.Pipes.{held_at, block_at, with_end, without_end}
use Rattle.machine_state.specs.StoredPipes.{pipe_slot, pipe_slots}
use Rattle.machine_state.proofs.UseLaws.{slot_values, there_values, values_edited}

abbrev pub Pipes : Type 0
Pipes = List (Option (Used StoredPipe))

pub slot_pipes : (slots : List (Option StoredPipe)) (n : ℕ) → slot (pipe_slots slots) n ≡ pipe_slot (slot slots n)
slot_pipes slots n = get_or-map pipe_slot slots n None

module _ (xs : Pipes) (n : ℕ) where
  pub held_there : (used : Used StoredPipe) → slot xs n ≡ Some used → pipe_bytes (slot (pipe_slots (values_in xs)) n) ≡ used.value.ring.bytes
  held_there used is = ap pipe_bytes (slot_pipes (values_in xs) n ∙ ap pipe_slot (slot_values xs n ∙ ap value_at is))

-- the places of a pipe are those of its ring
pub block_is : (xs : Pipes) (n : ℕ) → block_at (block_slots (values_in xs)) n ≡ block_in (value_at (slot xs n))
block_is xs n = get_or-map block_in (values_in xs) n None ∙ ap block_in (slot_values xs n)

pub block_there : (xs : Pipes) (n : ℕ) (used : Used StoredPipe) → slot xs n ≡ Some used → block_at (block_slots (values_in xs)) n ≡ used.value.ring.block
block_there xs n used is = block_is xs n ∙ ap (λ x. block_in (value_at x)) is

-- the bytes of a pipe are those of the pipe of the world
pub held_is : (xs : Pipes) (n : ℕ) → pipe_bytes (slot (pipe_slots (values_in xs)) n) ≡ held_at (slot (values_in xs) n)
held_is xs n = ap pipe_bytes (slot_pipes (values_in xs) n) ∙ same (slot (values_in xs) n)
  where
    same : (x : Option StoredPipe) → pipe_bytes (pipe_slot x) ≡ held_at x
    same None = refl
    same (Some pipe) = refl

pub pipe_slots_set : (slots : List (Option StoredPipe)) (n : ℕ) (x : Option StoredPipe) → pipe_slots (set slots n x) ≡ set (pipe_slots slots) n (pipe_slot x)
pipe_slots_set slots n x = map-set pipe_slot slots n x

as_full : (x : Option StoredPipe) → is_some (pipe_slot x) ≡ is_some x
as_full None = refl
as_full (Some pipe) = refl

-- a pipe is there where it is stored
pub pipes_there : (xs : Pipes) (n : ℕ) → is_some (slot (pipe_slots (values_in xs)) n) ≡ is_some (slot xs n)
pipes_there xs n = ap is_some (slot_pipes (values_in xs) n) ∙ (as_full (slot (values_in xs) n) ∙ there_values xs n)

-- an edit of a pipe is an edit of the pipe of the world
pub pipes_edited : (xs : Pipes) (n : ℕ) (f : StoredPipe → StoredPipe) (g : List ℕ → List ℕ) → ((pipe : StoredPipe) → (f pipe).ring.bytes ≡ g pipe.ring.bytes) →
    pipe_slots (values_in (edited n (with_value f) xs)) ≡ edited n g (pipe_slots (values_in xs))
pipes_edited xs n f g same =
    ap pipe_slots (values_edited xs n f) ∙ (pipe_slots_set (values_in xs) n (option_map f (slot (values_in xs) n)) ∙
    ap (λ y. set (pipe_slots (values_in xs)) n y) (alike (slot (values_in xs) n) ∙ ap (option_map g) (sym (slot_pipes (values_in xs) n))))
  where
    alike : (x : Option StoredPipe) → pipe_slot (option_map f x) ≡ option_map g (pipe_slot x)
    alike None = refl
    alike (Some pipe) = ap Some (same pipe)

-- an edit that leaves the bytes alone leaves the pipes of the world
pub pipes_same : (xs : Pipes) (n : ℕ) (f : StoredPipe → StoredPipe) → ((pipe : StoredPipe) → (f pipe).ring.bytes ≡ pipe.ring.bytes) →
    pipe_slots (values_in (edited n (with_value f) xs)) ≡ pipe_slots (values_in xs)
pipes_same xs n f same =
    ap pipe_slots (values_edited xs n f) ∙ map-set_same pipe_slot (values_in xs) n (option_map f (slot (values_in xs) n)) None (alike (slot (values_in xs) n))
  where
    alike : (x : Option StoredPipe) → pipe_slot (option_map f x) ≡ pipe_slot x
    alike None = refl
    alike (Some pipe) = ap Some (same pipe)

-- the ends are no matter to the ring
pub ring_with : (m : Mode) (pipe : StoredPipe) → (with_end m pipe).ring ≡ pipe.ring
ring_with mode.Read pipe = refl
ring_with mode.Write pipe = refl
ring_with mode.ReadWrite pipe = refl

pub ring_without : (m : Mode) (pipe : StoredPipe) → (without_end m pipe).ring ≡ pipe.ring
ring_without mode.Read pipe = refl
ring_without mode.Write pipe = refl
ring_without mode.ReadWrite pipe = refl
