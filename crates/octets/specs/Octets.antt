-- A number of n bytes, an id, and an event, from `at` in a slice of any length, read and written; n bytes of one slice copied to another.
use Rattle.std.specs.Prelude.{ℕ, ◌+◌, cond, ◌&&◌, List, leb, length, take}
use Rattle.rules.specs.declared.Id.{Id}
use Rattle.rules.specs.declared.Event.{Event}
use Rattle.rules.specs.Lists.{over_at}
use Rattle.rules.specs.Records.{id_size, id_from, no_event}
use Rattle.rules.specs.Bytes.{big, read, id_at, event_size, event_at, event_bytes}

-- the number, 0 if its bytes are not all there
unfoldable pub number_at : ℕ → ℕ → List ℕ → ℕ
number_at n at l = cond (leb (at + n) (length l)) (read n at l) 0

-- the number, 0 if its bytes are more than 8 or not all there
unfoldable pub get_at : ℕ → ℕ → List ℕ → ℕ
get_at n at l = cond (leb n 8 && leb (at + n) (length l)) (read n at l) 0

-- the last n bytes of x over what stands there, if there is room for them all
unfoldable pub put_at : ℕ → ℕ → ℕ → List ℕ → List ℕ
put_at n at x l = cond (leb (at + n) (length l)) (over_at at (big n x) l) l

-- the id, 0 if its bytes are not all there
unfoldable pub get_id : ℕ → List ℕ → Id
get_id at l = cond (leb (at + id_size) (length l)) (id_at at l) (id_from 0)

-- the event, all fields zero if its bytes are not all there
unfoldable pub get_event : ℕ → List ℕ → Event
get_event at l = cond (leb (at + event_size) (length l)) (event_at at l) no_event

-- the bytes of an event over what stands there, if there is room for them all
unfoldable pub put_event : ℕ → Event → List ℕ → List ℕ
put_event at e l = cond (leb (at + event_size) (length l)) (over_at at (event_bytes e) l) l

-- the first n bytes of `from` over what stands in `to` from `at` on, if there are so many and room for them
unfoldable pub copied : ℕ → ℕ → List ℕ → List ℕ → List ℕ
copied at n from to = cond (leb n (length from) && leb (at + n) (length to)) (over_at at (take n from) to) to
