use Rattle.std.proofs.Common.{◌≡◌, ◌≢◌, ◌<◌, ◌≤◌, ℕ, ◌+◌, ◌-◌, ◌*◌, ◌/◌, ◌%◌, ◌^◌, true, false, cond, List, Option, None, Some, inl, inr}
use Rattle.std.proofs.Common.{refl, ap, sym, ◌∙◌, arith, w32, bit_and, bit_or, length-set, set, get_or-set_same, get_or-set_other, replicate}
use Rattle.std.specs.Prelude.{is_none, is_some}
use Rattle.std.specs.Int.{bit_at, bit_not, trailing_zeros, trailing_ones}
use Rattle.std.proofs.lemmas.List.Sums.{position_or_len_is}
use Rattle.std.proofs.lemmas.Nat.{shr-shr}
use Rattle.std.proofs.lemmas.Nat.Bits.{bit_at-zero, bit_at_above, bit_at_ones, bit_at-trailing_zeros, bit_at-trailing_ones}
use Rattle.std.proofs.lemmas.Nat.Bits.{bit_at_set_same, bit_at_set_other, bit_at_clear_same, bit_at_clear_other}
use Rattle.std.proofs.lemmas.Bool.{cases_eq, cases_lt, lt-ltb}
use Rattle.std.proofs.Math.ListN.{get_or-eq_default, get_or-replicate}
use Rattle.slots.specs.Slots.{slot, lowest}
use Rattle.call_types.specs.declared.limits.TheConstants.{OPEN_MAX}
use Rattle.process_table.specs.Tables.{IsNextOpen, IsFreeFrom}
use Rattle.process_table.specs.Proved.Masks.{bit_of, Marks}

-- a descriptor whose bit is 0 is free, and one whose bit is 1 is open
free_of : (entry : Option ℕ) → bit_of entry ≡ 0 → (entry ≡ None) × (is_none entry ≡ true)
free_of None bit = (refl, refl)
free_of (Some description) bit = absurd (omega (arith, bit))

open_of : (entry : Option ℕ) → bit_of entry ≡ 1 → (is_some entry ≡ true) × (is_none entry ≡ false)
open_of None bit = absurd (omega (arith, bit))
open_of (Some description) bit = (refl, refl)

-- what a shift leaves of the bits
shifted_at : (bits from k : ℕ) → bit_at (bits / 2 ^ from) k ≡ bit_at bits (from + k)
shifted_at bits from k = ap (λ x. x % 2) (shr-shr bits from k)

-- the next bit that is 1 is one of the 32
pub next_within : (bits from : ℕ) → bits < 4294967296 → 0 < bits / 2 ^ from → bits / 2 ^ from < 4294967296 →
    from + trailing_zeros w32 (bits / 2 ^ from) < OPEN_MAX
next_within bits from all some fits =
    let first = bit_at-trailing_zeros w32 (bits / 2 ^ from) some fits in
    elim (cases_lt (from + trailing_zeros w32 (bits / 2 ^ from)) OPEN_MAX) [
      | inl below ↦ below
      | inr above ↦ let clear = sym (bit_at_above bits 32 _ all above) ∙ (sym (shifted_at bits from _) ∙ first.1) in absurd (omega (arith, clear))
    ]

pub none_marked : Marks 0 (replicate OPEN_MAX None)
none_marked = record { all = refl; each = λ fd within. bit_at-zero fd ∙ ap bit_of (sym (get_or-replicate OPEN_MAX fd None None within)) }

module _ (bits : ℕ) (slots : List (Option ℕ)) (marks : Marks bits slots) where
  free_at : (fd : ℕ) → fd < OPEN_MAX → bit_at bits fd ≡ 0 → (slot slots fd ≡ None) × (is_none (slot slots fd) ≡ true)
  free_at fd within bit = free_of (slot slots fd) (sym (marks.each fd within) ∙ bit)

  open_at : (fd : ℕ) → fd < OPEN_MAX → bit_at bits fd ≡ 1 → (is_some (slot slots fd) ≡ true) × (is_none (slot slots fd) ≡ false)
  open_at fd within bit = open_of (slot slots fd) (sym (marks.each fd within) ∙ bit)

  -- one bit is that of the new entry, and the others stay
  set_marked : (after fd : ℕ) (entry : Option ℕ) → fd < OPEN_MAX → bit_at after fd ≡ bit_of entry →
      ((k : ℕ) → k < OPEN_MAX → k ≢ fd → bit_at after k ≡ bit_at bits k) → Marks after (set slots fd entry)
  set_marked after fd entry within here others = record {
    all = length-set slots fd entry ∙ marks.all;
    each = λ k below. elim (cases_eq k fd) [
      | inl same ↦ rw (same, get_or-set_same slots fd entry None (omega (arith, within, marks.all))) here
      | inr apart ↦ others k below apart ∙ (marks.each k below ∙ ap bit_of (sym (get_or-set_other slots fd k entry None apart)))
    ];
  }

  pub opened_marked : (fd entry : ℕ) → fd < OPEN_MAX → Marks (bit_or bits (1 * 2 ^ fd % 2 ^ 32)) (set slots fd (Some entry))
  opened_marked fd entry within =
      set_marked _ fd (Some entry) within (bit_at_set_same w32 bits fd within) (λ k below apart. bit_at_set_other w32 bits fd within k apart)

  pub freed_marked : (fd : ℕ) → fd < OPEN_MAX → Marks (bit_and bits (bit_not w32 (1 * 2 ^ fd % 2 ^ 32))) (set slots fd None)
  freed_marked fd within =
      set_marked _ fd None within (bit_at_clear_same w32 bits fd within) (λ k below apart. bit_at_clear_other w32 bits fd within k below apart)

  -- where every bit is 1, no descriptor is free
  pub none_lowest : bits ≡ 4294967295 → lowest slots ≡ None
  none_lowest full =
      let open_below : (k : ℕ) → k < OPEN_MAX → is_none (slot slots k) ≡ false = λ k below. (open_at k below (rw full (bit_at_ones 32 k below))).1 in
      let place = position_or_len_is is_none slots OPEN_MAX None (omega (arith, marks.all)) open_below (λ within. absurd (omega (arith, marks.all, within))) in
      rw (place, marks.all) refl

  -- and else the lowest bit that is 0 tells the lowest free one
  pub some_lowest : bits + 1 < 4294967296 → lowest slots ≡ Some (trailing_ones w32 bits)
  some_lowest part =
      let first = bit_at-trailing_ones w32 bits part in
      let here = (free_at _ first.0 first.1).1 in
      let open_below : (k : ℕ) → k < trailing_ones w32 bits → is_none (slot slots k) ≡ false =
      λ k below. (open_at k (omega (arith, below, first.0)) (first.2 k below)).1 in
      let place = position_or_len_is is_none slots (trailing_ones w32 bits) None (omega (arith, marks.all, first.0)) open_below (λ within. here) in
      rw (place, marks.all) (ap (λ within. cond within (Some (trailing_ones w32 bits)) None) (lt-ltb _ 32 first.0))

  module _ (from : ℕ) where
    behind_at : (k : ℕ) → from ≤ k → bit_at (bits / 2 ^ from) (k - from) ≡ bit_at bits k
    behind_at k after = let whole : from + (k - from) ≡ k = omega (arith, after) in shifted_at bits from (k - from) ∙ ap (bit_at bits) whole

    -- where no bit is 1 from a number on, no descriptor is open from there on
    pub none_open : bits / 2 ^ from ≡ 0 → IsFreeFrom slots from
    none_open none k after = elim (cases_lt k OPEN_MAX) [
      | inl below ↦ (free_at k below (sym (behind_at k after) ∙ rw none (bit_at-zero (k - from)))).0
      | inr above ↦ get_or-eq_default slots None (omega (arith, above, marks.all))
    ]

    -- and else the lowest of those bits tells the next that is open
    pub next_is_open : 0 < bits / 2 ^ from → bits / 2 ^ from < 4294967296 → from + trailing_zeros w32 (bits / 2 ^ from) < OPEN_MAX →
        IsNextOpen slots from (from + trailing_zeros w32 (bits / 2 ^ from))
    next_is_open some fits within =
        let first = bit_at-trailing_zeros w32 (bits / 2 ^ from) some fits in
        record {
          after = omega arith;
          there = (open_at _ within (sym (shifted_at bits from _) ∙ first.1)).0;
          least = λ k after before.
              let clear = sym (behind_at k after) ∙ first.2 (k - from) (omega (arith, after, before)) in
              (free_at k (omega (arith, before, within)) clear).0;
        }
