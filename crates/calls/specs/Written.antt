-- Bytes and rows written one behind the other.
use Rattle.std.specs.Prelude.{◌≡◌, ℕ, ◌+◌, ◌*◌, List, ◌++◌, length, take}
use Rattle.rules.specs.Rows.{Row}
use Rattle.rules.specs.Bytes.{bytes, row_size}

-- the bytes vs stand in `new` at `at`, after what stood there in `old`; what is past them is left open
pub record Put (old : List ℕ) (at : ℕ) (vs new : List ℕ) : Type 0 where
  pub size : length new ≡ length old
  pub front : take (at + length vs) new ≡ take at old ++ vs

-- a buffer of rows with some more written behind the first `at`; what is past them is left open
pub record Written (old : List ℕ) (at : ℕ) (new : List ℕ) (next : ℕ) (rows : List Row) : Type 0 where
  pub size : length new ≡ length old
  pub count : next ≡ at + length rows
  pub front : take (row_size * next) new ≡ take (row_size * at) old ++ bytes rows
