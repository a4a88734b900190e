-- What the words of an index say of the position with the number k: its block's entry, and its overflow place or its lane. Assumes nothing.
use Rattle.std.specs.Prelude.{Some, None}
use mathlib.Core.Path.{◌≡◌, refl, sym, ap, ap₂, ◌∙◌}
use mathlib.Core.List.{List}
use mathlib.Core.Bool.{Bool, true, false}
use Prim.Native.Nat.{ℕ, suc, ◌+◌, ◌-◌, ◌*◌, ◌/◌, ◌%◌, ◌^◌, ◌≤◌, ◌<◌}
use native.Mathlib.Nat.{le_trans, le_of_eq, lt_of_lt_of_le, lt_of_le_of_lt}
use native.Mathlib.Omega.{arith}
use lib.Bits.{bit_and}
use lib.ListN.{length, get_or}
use Rattle.broadword.specs.Bits.{count}
use Rattle.broadword.specs.Places.{select}
use Rattle.broadword.proofs.Count.{count_le, count_mono}
use Rattle.broadword.proofs.Find.{Selected, select_none}
use Rattle.bit_words.specs.Vector.{bit_over, words_for}
use Rattle.bit_words.specs.Inner.{Findable}
use Rattle.bit_words.proofs.Runs.{bit_over_le, narrow_in}
use Rattle.bit_words.proofs.Valid.{valid}
use Rattle.darray_positions.specs.Index.{pos, blocks, size, wide, spill, before, entry, lanes, lane, lane_words}
use Rattle.darray_positions.specs.Positions.{positions}
use Rattle.darray.specs.Select.{Indexed, entry_of}
use Rattle.darray.specs.declared.select.Entry.TheVariants.{First, Overflow}
use Rattle.darray_positions.proofs.Index as laws
use Rattle.darray_positions.proofs.Positions as found
use Rattle.darray.proofs.Signed.{entry_low, entry_high}

module _ (ws : List ℕ) (len : ℕ) (b : Bool) (index : List ℕ) (n : ℕ) (I : Indexed ws len b index n) where
  abbrev P : List ℕ
  P = positions b ws len

  abbrev f : ℕ → ℕ
  f = bit_over b ws

  number : n ≡ count f len
  number = I.number ∙ found.length-places f (bit_over_le b ws) len

  pub number_lt : n < 2 ^ 63
  number_lt = lt_of_le_of_lt (le_trans (le_of_eq number) (count_le f len (bit_over_le b ws))) I.short

  pub too_few : (k : ℕ) → n ≤ k → None ≡ select f len k
  too_few k h = sym (select_none f len k (le_trans (le_of_eq (sym number)) h))

  abbrev E : ℕ
  E = (n + 1023) / 1024

  abbrev L : ℕ
  L = ((n + 31) / 32 + 3) / 4

  blocks_are : E ≡ blocks P
  unfolding blocks
  blocks_are = ap (λ (m : ℕ). (m + 1023) / 1024) I.number

  lane-words_are : L ≡ lane_words P
  unfolding lane_words lanes
  lane-words_are = ap (λ (m : ℕ). ((m + 31) / 32 + 3) / 4) I.number

  index_length : length index ≡ E + L + before P (blocks P)
  index_length = ap length I.is ∙ laws.length_index P ∙ ap₂ (λ (x y : ℕ). x + y + before P (blocks P)) (sym blocks_are) (sym lane-words_are)

  module _ (k : ℕ) (h : k < n) where
    abbrev j : ℕ
    j = k / 1024

    in_count : k < count f len
    in_count = lt_of_lt_of_le h (le_of_eq number)

    in_blocks : j < blocks P
    in_blocks = let e = blocks_are in omega arith

    select_is : select f len k ≡ Some (pos P k)
    unfolding pos
    select_is = found.place_select f (bit_over_le b ws) len k in_count

    position_lt : pos P k < len
    unfolding pos
    position_lt = (found.place_has f (bit_over_le b ws) len k in_count).within

    pub entry_lt : j < length index
    entry_lt = let e = index_length in omega arith

    entry_is : get_or index j 0 ≡ entry P j
    entry_is = ap (λ (l : List ℕ). get_or l j 0) I.is ∙ laws.index_entry P j in_blocks

    -- a wide block has positions of its own in the overflow
    spill-room : wide P j ≡ true → before P j + 1 ≤ n
    spill-room t =
        let a = laws.before_next P j in
        let s = laws.spill-wide P j t in
        let q = laws.size-pos P j in_blocks in
        let l = laws.before_le P (suc j) in
        let m = I.number in
        omega arith

    first_lt : pos P (1024 * j) < 2 ^ 63
    unfolding pos
    first_lt = lt_of_lt_of_le (found.place_has f (bit_over_le b ws) len (1024 * j) (let c = in_count in omega arith)).within (let s = I.short in omega arith)

    -- an entry that is read says which kind of block it is
    Reads : Bool → Type 0
    Reads t = (get_or index j 0 ≡ 2 ^ 63 → ⊥) × (get_or index j 0 < 2 ^ 64)
        × ((x : ℕ) → entry_of (get_or index j 0) ≡ Overflow x → (wide P j ≡ true) × (x ≡ before P j))
        × ((x : ℕ) → entry_of (get_or index j 0) ≡ First x → (wide P j ≡ false) × (x ≡ pos P (1024 * j)))

    reads : (t : Bool) → wide P j ≡ t → Reads t
    unfolding Reads
    reads true t =
        let e = entry_is ∙ laws.entry-wide P j t in
        let r = spill-room t in
        let s = number_lt in
        let hi : 2 ^ 63 ≤ get_or index j 0 = omega arith in
        let lt : get_or index j 0 < 2 ^ 64 = omega arith in
        let o = entry_high (get_or index j 0) lt hi in
        let v : 2 ^ 64 - 1 - get_or index j 0 ≡ before P j = omega arith in (
          (λ q. omega arith),
          lt,
          (λ x q. let g : 2 ^ 64 - 1 - get_or index j 0 ≡ x = cc in (t, sym g ∙ v)),
          (λ x q. let z : ◌≡◌ {A = ℕ} 0 1 = cc in absurd (omega arith)),
        )
    reads false t =
        let e = entry_is ∙ laws.entry_near P j t in
        let l = first_lt in
        let lo : get_or index j 0 < 2 ^ 63 = omega arith in
        let lt : get_or index j 0 < 2 ^ 64 = omega arith in
        let o = entry_low (get_or index j 0) lt lo in (
          (λ q. omega arith),
          lt,
          (λ x q. let z : ◌≡◌ {A = ℕ} 0 1 = cc in absurd (omega arith)),
          (λ x q. let g : get_or index j 0 ≡ x = cc in (t, sym g ∙ e)),
        )

    pub readable : get_or index j 0 ≡ 2 ^ 63 → ⊥
    unfolding Reads
    readable = (reads (wide P j) refl).0

    pub lane_lt : E + k / 32 / 4 < length index
    lane_lt = let e = index_length in omega arith

    -- ---- a wide block

    module _ (x : ℕ) (ex : entry_of (get_or index j 0) ≡ Overflow x) where
      kind : (wide P j ≡ true) × (x ≡ before P j)
      unfolding Reads
      kind = (reads (wide P j) refl).2 x ex

      in_spill : k % 1024 < spill P j
      unfolding size
      in_spill = let s = laws.spill-wide P j kind.0 in let m = I.number in omega arith

      pub overflow_lt : E + L + x + k % 1024 < length index
      overflow_lt =
          let a = laws.before_next P j in
          let i = in_spill in
          let m = laws.before_mono P (suc j) (blocks P) in_blocks in
          let l = index_length in
          let q = kind.1 in
          omega arith

      pub overflow_is : (at : ℕ) → at ≡ E + L + x + k % 1024 → Some (get_or index at 0) ≡ select f len k
      overflow_is at e =
          let q = kind.1 in
          let p : at ≡ blocks P + lane_words P + (before P j + k % 1024) = (let u = blocks_are in let v = lane-words_are in omega arith) in
          let d : 1024 * j + k % 1024 ≡ k = omega arith in
          ap Some (ap₂ (λ (l : List ℕ) (i : ℕ). get_or l i 0) I.is p ∙ laws.index_spilled P j (k % 1024) in_spill in_blocks ∙ ap (pos P) d) ∙ sym select_is

    -- ---- a block with distances

    module _ (e : ℕ) (ee : e ≡ E) (x d : ℕ) (ex : entry_of (get_or index j 0) ≡ First x) (ed : d ≡ bit_and (get_or index (e + k / 32 / 4) 0 / 2 ^ (16 * (k / 32 % 4))) 0xffff) where
      near : (wide P j ≡ false) × (x ≡ pos P (1024 * j))
      unfolding Reads
      near = (reads (wide P j) refl).3 x ex

      in_lanes : k / 32 < lanes P
      unfolding lanes
      in_lanes = let m = I.number in omega arith

      in_words : k / 32 / 4 < lane_words P
      in_words = let l = lane-words_are in omega arith

      lane_is : d ≡ pos P (32 * (k / 32)) - pos P (1024 * j)
      lane_is =
          let p : e + k / 32 / 4 ≡ blocks P + k / 32 / 4 = ap (λ (y : ℕ). y + k / 32 / 4) (ee ∙ blocks_are) in
          let q : 4 * (k / 32 / 4) + k / 32 % 4 ≡ k / 32 = omega arith in
          let g : k / 32 / 32 ≡ j = omega arith in
          ed
          ∙ ap (λ (y : ℕ). bit_and (y / 2 ^ (16 * (k / 32 % 4))) 0xffff) (ap₂ (λ (l : List ℕ) (i : ℕ). get_or l i 0) I.is p ∙ laws.index_lanes P (k / 32 / 4) in_words)
          ∙ laws.lane_read P (laws.rising b ws len) (k / 32 / 4) (k / 32 % 4) (omega arith)
          ∙ ap (lane P) q ∙ laws.lane_near P (k / 32) in_lanes (ap (wide P) g ∙ near.0) ∙ ap (λ (y : ℕ). pos P (32 * (k / 32)) - pos P (1024 * y)) g

      below : 32 * (k / 32) < count f len
      below = let c = in_count in omega arith

      pub start_is : x + d ≡ pos P (32 * (k / 32))
      unfolding pos
      start_is =
          let m = found.place_mono f (bit_over_le b ws) len (1024 * j) (32 * (k / 32)) (omega arith) below in
          let a = near.1 in
          let e = lane_is in
          omega arith

      start_has : Selected f len (32 * (k / 32)) (pos P (32 * (k / 32)))
      unfolding pos
      start_has = found.place_has f (bit_over_le b ws) len (32 * (k / 32)) below

      pub start_lt : x + d < len
      start_lt = lt_of_le_of_lt (le_of_eq start_is) start_has.within

      pub exact : k % 32 ≡ 0 → Some (x + d) ≡ select f len k
      exact z = ap Some (start_is ∙ ap (pos P) (let e : 32 * (k / 32) ≡ k = omega arith in e)) ∙ sym select_is

      pub findable : (used : ℕ) → used ≡ words_for len → Findable ws used (x + d)
      findable used e =
          let l = start_lt in
          let r = (valid ws len I.ok).room in
          let s = I.short in
          record { start = omega arith; room = omega arith; few = omega arith }

      counted : count f (x + d) + k % 32 ≡ k
      counted = let a : count f (x + d) ≡ 32 * (k / 32) = ap (count f) start_is ∙ start_has.before in omega arith

      pub enough : (used : ℕ) → used ≡ words_for len → count f (x + d) + k % 32 < count f (used * 64)
      enough used e = let c = counted in let m = count_mono f len (used * 64) (omega arith) in let i = in_count in omega arith

      pub searched : (used : ℕ) → used ≡ words_for len → select f (used * 64) (count f (x + d) + k % 32) ≡ select f len k
      searched used e =
          let p : pos P k < used * 64 = (let q = position_lt in omega arith) in
          ap (select f (used * 64)) counted ∙ narrow_in f (bit_over_le b ws) len (used * 64) k (pos P k) select_is p ∙ sym select_is
