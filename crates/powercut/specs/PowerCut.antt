-- The power cut: a host stores the image after a call, loses everything else, and goes on from the schedule that it loads.
use Rattle.std.specs.Prelude.{◌≡◌, ℕ, ◌^◌, ◌<◌, true, false, List, [], ◌∷◌, map, length}
use Rattle.rules.specs.declared.Event.{Event}
use Rattle.rules.specs.declared.Schedule.{Schedule}
use Rattle.rules.specs.Lists.{All}
use Rattle.rules.specs.Records.{id_limit, IdFits}
use Rattle.rules.specs.Calls.{program, event, cancellation, decision, question, Call, bare, set_clock, list, call, run, joined}
use Rattle.rules.specs.Arrival.{after}
use Rattle.rules.specs.Image.{image_size, image, loaded}
use Rattle.rules.specs.Face.{Operation, as_call, id_too_long, shown, negative, lent_after, face, face_fresh}
use Rattle.rules.specs.Clauses.{ImageKept}

-- Records, event: each field fits its width
pub record FieldsFit (e : Event) : Type 0 where
  pub id : IdFits e.id
  pub program : e.program < 2 ^ 8
  pub controls : e.controls < 2 ^ 32
  pub created : e.created < 2 ^ 32
  pub start : e.start < 2 ^ 32
  pub duration : e.duration < 2 ^ 32
  pub randomize_start : e.randomize_start < 2 ^ 16
  pub randomize_duration : e.randomize_duration < 2 ^ 16
  pub start_draw : e.start_draw < 2 ^ 16
  pub duration_draw : e.duration_draw < 2 ^ 16

-- Calls: each number that is given to the call fits its width. What is lent may hold anything.
abbrev pub Fits : Call → Type 0
Fits (bare (program number primacy defaults)) = (number < 2 ^ 8) × (primacy < 2 ^ 8) × (defaults < 2 ^ 32)
Fits (bare (event e)) = FieldsFit e
Fits (bare (cancellation id)) = id < id_limit
Fits (bare (decision id out)) = id < id_limit
Fits (bare (question control)) = control < 2 ^ 8
Fits (set_clock reading buffer) = reading < 2 ^ 64
Fits (list records) = Unit {0}

-- Call lists: one schedule goes on as another does, whatever calls follow
pub record GoesOn (r s : Schedule) : Type 0 where
  -- the same schedule after them
  pub states : (ds : List Call) → run r ds ≡ run s ds
  -- the same joined rows
  pub rows : (ds : List Call) → joined r ds ≡ joined s ds
  -- and each call gives and leaves the same: number, answer, schedule, buffer, listing
  pub calls : (ds : List Call) (c : Call) → call (run r ds) c ≡ call (run s ds) c

-- Frames and image, C hosts: an operation with the bytes that are lent to it
pub record Lending : Type 0 where
  pub operation : Operation
  pub lent : List ℕ

abbrev pub by_value : Lending → Call
by_value x = as_call x.operation x.lent

-- Frames and image, C hosts: the image after a list of operations, each of which loads it and stores it
unfoldable pub host_run : List ℕ → List Lending → List ℕ
host_run l [] = l
host_run l (x ∷ xs) = host_run (face l x.operation x.lent).image xs

-- Frames and image, C hosts: on the image l an operation gives what its call by value gives on the schedule s
pub record SeenByHost (l : List ℕ) (s : Schedule) (op : Operation) (lent : List ℕ) : Type 0 where
  -- an accepted call: its answer, the image of the schedule that it leaves, and what it wrote
  pub accepted : (call s (as_call op lent)).number ≡ 0 → id_too_long (call s (as_call op lent)).value (length lent) ≡ false
      → face l op lent
      ≡ record { returned = shown (call s (as_call op lent)).value; image = image (call s (as_call op lent)).state; lent = lent_after op (call s (as_call op lent)) lent }
  -- a refused call: the negative of its number, and no byte changed
  pub refused : ((call s (as_call op lent)).number ≡ 0 → ⊥)
      → face l op lent ≡ record { returned = negative (call s (as_call op lent)).number; image = l; lent = lent }
  -- a question whose holder's id does not fit: 13, and no byte changed; by value the question changes nothing either
  pub no_room : (call s (as_call op lent)).number ≡ 0 → id_too_long (call s (as_call op lent)).value (length lent) ≡ true
      → (face l op lent ≡ record { returned = negative 13; image = l; lent = lent }) × ((call s (as_call op lent)).state ≡ s)

-- Frames and image, C hosts: operations from the fresh image, which is written into the buffer b
pub record HostRun (b : List ℕ) (xs : List Lending) : Type 0 where
  -- the image after them is that of the schedule after the calls by value
  pub image_after : host_run (face_fresh b).image xs ≡ image (after (map by_value xs))
  -- and whatever operation comes next gives what its call by value gives. So does each of a list, as the next of those before it.
  pub next : (op : Operation) (lent : List ℕ) → SeenByHost (host_run (face_fresh b).image xs) (after (map by_value xs)) op lent

-- Frames and image, the power cut: of every list of calls and of every list of operations whose numbers fit
pub record PowerCut : Type 0 where
  -- the image after the list is accepted, and gives the schedule back
  pub stored : (cs : List Call) → All Fits cs → ImageKept (after cs)
  -- what is loaded from it goes on as the schedule does
  pub goes_on : (cs : List Call) → All Fits cs → GoesOn (loaded (image (after cs))) (after cs)
  -- a C host, for which every operation loads and stores, sees the run by value
  pub host : (b : List ℕ) → length b ≡ image_size → (xs : List Lending) → All (λ x. Fits (by_value x)) xs → HostRun b xs
