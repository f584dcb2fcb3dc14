-- The bytes behind those that lines took stand at the front, as many as can matter.
use Prim.Native.Nat.{◌+◌, ◌-◌, min}
use mathlib.Core.Path.{◌≡◌, sym, ap, ◌∙◌}
use native.Mathlib.Omega.{arith}
use lib.ListN.{length, length-take, length-drop, take, drop}
use lib.Seq.{take-take}
use Rattle.std.proofs.lemmas.List.{drop-take, take_min}
use Rattle.input.specs.Kept.{most_kept}
use Rattle.input.proofs.Input.take.Goals as goal

pub returns : goal.returns
returns c =
    let taken = c.args.taken in
    let i = c.self.inside in
    let size : length c.args.self.now ≡ min i.end (length i.buffer) = ap length (sym c.self.view_is) ∙ length-take i.end i.buffer in
    let k = c.keep-self-inside.ensures.keeps (record { ordered = omega (arith, size, c.requires); there = omega (arith, c.self.invariant) }) in
    let rest : taken + (i.end - taken) ≡ i.end = omega (arith, size, c.requires) in
    let piece : drop taken c.args.self.now ≡ take (i.end - taken) (drop taken i.buffer) = ap (drop taken) (sym c.self.view_is ∙ ap (λ n. take n i.buffer) (sym rest)) ∙ drop-take taken (i.end - taken) i.buffer in
    let n : c.keep-self-inside.result ≡ min most_kept (length (drop taken c.args.self.now)) = omega (arith, k.count, length-drop taken c.args.self.now, size, c.self.told, c.self.invariant) in
    let is = k.front ∙ sym (take-take c.keep-self-inside.result (i.end - taken) (drop taken i.buffer) (omega (arith, k.count)))
    ∙ ap (take c.keep-self-inside.result) (sym piece) ∙ ap (λ n. take n (drop taken c.args.self.now)) n ∙ take_min most_kept (drop taken c.args.self.now) in
    record { is = is; few = omega (arith, length-take c.keep-self-inside.result c.keep-self-inside.new.buffer, k.count) }
