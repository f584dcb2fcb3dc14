-- A buffer that is too short is left alone; in any other the pairs of the frame's bytes stand at the front.
use mathlib.Core.Path.{◌≡◌, refl, sym, ap, ◌∙◌}
use Prim.Native.Nat.{◌*◌}
use native.Mathlib.Omega.{arith}
use lib.Seq.{length-take-le}
use Rattle.rules.specs.Records.{id_size}
use Rattle.frame.specs.Decoded.{size_of}
use Rattle.frame.specs.Encoded.{kind_of, encoded}
use Rattle.frame.proofs.ByKind.{size_bound}
use Rattle.frame.proofs.Writes.{encoded_short, frame_stands, encoded_whole}
use Rattle.frame.proofs.encode.Goals as goal

pub overflow_mul-size : goal.overflow_mul-size
overflow_mul-size c = omega (arith, size_bound id_size c.kind_of-kind.result, c.size_of-size.ensures)

pub returns-then-out-size : goal.returns-then-out-size
returns-then-out-size c =
    let is-size : c.size_of-size.result ≡ size_of (kind_of c.args.f) = c.size_of-size.ensures ∙ ap size_of c.kind_of-kind.ensures in
    let a = c.args in
    encoded_short a.f a.out.now _ (ap (◌*◌ 2) (is-size)) c.if-out-size.true

-- the array has room for the frame's bytes
pub slice_bounds-bytes-end : goal.slice_bounds-bytes-end
slice_bounds-bytes-end c = omega (arith, size_bound id_size c.kind_of-kind.result, c.size_of-size.ensures)

pub slice_bounds-put_pairs-end : goal.slice_bounds-put_pairs-end
slice_bounds-put_pairs-end c = sym (length-take-le c.size_of-size.result _ (omega (arith, size_bound id_size c.kind_of-kind.result, c.size_of-size.ensures)))

pub put_pairs-requires : goal.put_pairs-requires
put_pairs-requires c =
    let all = length-take-le c.size_of-size.result c.put-2.new.b (omega (arith, size_bound id_size c.kind_of-kind.result, c.size_of-size.ensures)) in
    omega (arith, c.if-out-size.false, all)

pub returns : goal.returns
unfolding encoded
returns c =
    let is-size : c.size_of-size.result ≡ size_of (kind_of c.args.f) = c.size_of-size.ensures ∙ ap size_of c.kind_of-kind.ensures in
    let a = c.args in
    let bytes = frame_stands a.f _ refl (rw c.kind_of-kind.ensures at c.put.ensures) c.put-2.ensures in
    encoded_whole a.f a.out.now _ (ap (◌*◌ 2) is-size) c.if-out-size.false (rw (is-size, bytes) at c.put_pairs.ensures)
