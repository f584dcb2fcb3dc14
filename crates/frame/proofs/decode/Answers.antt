-- A line of another length than its kind asks for is bad, and so is one with a byte that is no digit; any other is the frame that its bytes are.
use mathlib.Core.Path.{◌≡◌, sym, ap, ◌∙◌, refl}
use Prim.Native.Nat.{◌/◌}
use native.Mathlib.Omega.{arith}
use lib.ListN.{length}
use Rattle.rules.specs.Records.{id_size}
use Rattle.rules.specs.Frames.{line_in}
use Rattle.frame.specs.Decoded.{size_of}
use Rattle.frame.proofs.ByKind.{size_bound, frame_front, line_as, other_length}
use Rattle.frame.proofs.decode.Goals as goal

pub overflow_mul-size : goal.overflow_mul-size
overflow_mul-size c = omega (arith, size_bound id_size c.first-kind.result, c.size_of-size.ensures)

pub returns-then-line-size : goal.returns-then-line-size
returns-then-line-size c =
    let k = c.size_of-size.ensures ∙ ap size_of c.first-kind.ensures in
    sym (other_length id_size _ (λ e. c.if-line-size.true (omega (arith, k))))

pub read_pairs-requires : goal.read_pairs-requires
read_pairs-requires c =
    let long = c.if-line-size.false in
    record { few = omega (arith, long, size_bound id_size c.first-kind.result, c.size_of-size.ensures); pairs = omega (arith, long); places = refl }

pub returns-then-not-read_pairs : goal.returns-then-not-read_pairs
unfolding line_in
returns-then-not-read_pairs c =
    let p = c.read_pairs in
    rw (← p.ensures.digits, c.if-not-read_pairs.true)

pub returns : goal.returns
returns c =
    let p = c.read_pairs in
    let kind = c.first-kind.ensures in
    let good = c.if-not-read_pairs.false in
    let size : c.size_of-size.result ≡ length c.args.line.now / 2 = omega (arith, c.if-line-size.false) in
    c.frame_as.ensures ∙ frame_front _ _ p.ensures.size
    ∙ rw (← c.size_of-size.ensures, size, p.ensures.bytes good, kind)
    (sym (line_as id_size _ (sym p.ensures.digits ∙ good) (omega (arith, c.size_of-size.ensures, ap size_of kind))))
