-- Pipes of which one has another block.
use Rattle.std.proofs.Common.{◌≡◌, ℕ, zero, suc, ◌≤◌, ◌∙◌, List, [], ◌∷◌, Option, None, Some, set, refl, ap, arith}
use Rattle.slots.specs.Slots.{slot, edited}
use Rattle.slots.specs.declared.used.Used.{Used}
use Rattle.slots.specs.UsedSlots.{value_at, values_in}
use Rattle.slots.specs.Proved.Uses.{with_value}
use Rattle.pipe_table.specs.Ring.{Ring}
use Rattle.pipe_table.specs.declared.StoredPipe.{StoredPipe}
use Rattle.pipe_table.specs.Blocks.{block_in, block_slots}
use Rattle.pipe_table.specs.Proved.Pipes.{block_at, with_block}

abbrev pub Pipes : Type 0
Pipes = List (Option (Used StoredPipe))

-- a ring of the same bytes and capacity differs by its block alone
pub other_block : (old new : Ring) → new.bytes ≡ old.bytes → new.capacity ≡ old.capacity → new ≡ record {
  bytes = old.bytes;
  capacity = old.capacity;
  block =
      new.block;
}
other_block old new bytes capacity =
    ap (λ bs. record { bytes = bs; capacity = new.capacity; block = new.block }) bytes ∙
    ap (λ n. record { bytes = old.bytes; capacity = n; block = new.block }) capacity

-- what is written at a number where something stands is there
pub set_there : (xs : Pipes) (n : ℕ) (x y : Used StoredPipe) → slot xs n ≡ Some x → slot (set xs n (Some y)) n ≡ Some y
set_there [] n x y is = cc
set_there (first ∷ xs) zero x y is = refl
set_there (first ∷ xs) (suc n) x y is = set_there xs n x y is

-- where its block is no smaller, no pipe has fewer places
pub blocks_kept : (block : ℕ) (xs : Pipes) (n : ℕ) → block_in (value_at (slot xs n)) ≤ block → (k : ℕ) →
    block_at (block_slots (values_in xs)) k ≤ block_at (block_slots (values_in (edited n (with_value (with_block block)) xs))) k
blocks_kept block [] n kept k = omega arith
blocks_kept block (None ∷ xs) zero kept k = omega arith
blocks_kept block (Some used ∷ xs) zero kept zero = kept
blocks_kept block (Some used ∷ xs) zero kept (suc k) = omega arith
blocks_kept block (first ∷ xs) (suc n) kept zero = omega arith
blocks_kept block (first ∷ xs) (suc n) kept (suc k) = blocks_kept block xs n kept k
