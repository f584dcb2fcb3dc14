-- The parts of an image, written one after the other, fill a buffer of its length.
use mathlib.Core.Path.{◌≡◌, refl, ◌∙◌}
use Prim.Native.Nat.{ℕ}
use mathlib.Core.Bool.{true}
use mathlib.Core.List.{List}
use native.Mathlib.Omega.{arith}
use borrow.Author.Tests.{eq-eqb}
use lib.ListN.{length, length-append}
use Rattle.rules.specs.declared.Schedule.{Schedule}
use Rattle.rules.specs.Lists.{over_at}
use Rattle.rules.specs.Bytes.{big, flat, entry_size, entry_bytes}
use Rattle.rules.specs.Image.{program_size, programs_at, entries_at, image_size, program_bytes, image}
use Rattle.rules.proofs.Numbers.{flat_length}
use Rattle.rules.proofs.Entries.{entry_size_lem}
use Rattle.rules.proofs.Images.{program_size_lem}
use Rattle.rules.proofs.Lengths.{Lengths}
use Rattle.rules.proofs.Over.{over_all}
use Rattle.octets.specs.Octets.{put_at}
use Rattle.octets.proofs.Writes.{wrote_none, also, then}
use Rattle.image.specs.Exchange.{written_to}

pub written : (s : Schedule) → Lengths s → (l : List ℕ) → length l ≡ image_size → {m₁ m₂ m₃ m₄ : List ℕ} → m₁ ≡ put_at 8 0 s.clock l → m₂ ≡ put_at 1 8 s.count m₁
    → m₃ ≡ over_at programs_at (flat program_bytes s.programs) m₂ → m₄ ≡ over_at entries_at (flat entry_bytes s.entries) m₃ → (true, m₄) ≡ written_to s l
unfolding written_to image big
written s has l size {m₄ = m₄} e₁ e₂ e₃ e₄ =
    let ps = flat_length program_bytes program_size program_size_lem s.programs in
    let es = flat_length entry_bytes entry_size entry_size_lem s.entries in
    let w₁ = then (wrote_none l 0 (omega arith)) 0 refl 8 s.clock (omega arith) e₁ in
    let w₂ = then w₁ 8 refl 1 s.count (omega arith) e₂ in
    let w₃ = also w₂ programs_at refl (flat program_bytes s.programs) (omega arith) e₃ in
    let w₄ = also w₃ entries_at (omega arith) (flat entry_bytes s.entries) (omega arith) e₄ in
    let is : m₄ ≡ image s = w₄.is ∙ over_all (image s) l (simp length-append (omega arith)) in
    rw (eq-eqb (length l) image_size size, is)
