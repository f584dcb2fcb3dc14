-- Quoted texts as bytes, so that the tables show lines and what is printed for them as a person reads them.
use Rattle.std.specs.Prelude.{ℕ}
use Prim.Native.Char.{code}
use Prim.Native.String.{String, [], ◌∷◌}
use mathlib.Core.List as list

abbrev pub ascii : String → list.List ℕ
ascii [] = list.[]
ascii (c ∷ s) = list.◌∷◌ (code c) (ascii s)

-- lines, each with its line feed
abbrev pub lines : list.List String → list.List ℕ
lines list.[] = list.[]
lines (list.◌∷◌ s rest) = list.◌++◌ (ascii s) (list.◌∷◌ 10 (lines rest))
