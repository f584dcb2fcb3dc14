-- A cancellation: it finds the event that is held under the id, marks it, and finds the marked one the next time.
use mathlib.Core.Path.{◌≡◌, refl, ap}
use Prim.Native.Nat.{ℕ}
use mathlib.Core.Bool.{Bool, true, false, cond, ◌||◌}
use mathlib.Core.List.{List, [], ◌∷◌, map}
use mathlib.Core.Option.{Option, none, some}
use native.Mathlib.Omega.{arith}
use lib.Dec.{eqb}
use borrow.Author.Tests.{eqb-false}
use Rattle.rules.specs.declared.Entry.{Entry}
use Rattle.rules.specs.Refusals.{first_of, find, held_checks}
use Rattle.rules.specs.Calls.{entry_id, mark}

-- 11 is not given only if somebody is found
pub somebody : (o : Option Entry) → first_of (held_checks o) ≡ 0 → (h : Entry) × (o ≡ some h)
unfolding held_checks
somebody none z = absurd (eqb-false 11 0 refl z)
somebody (some h) z = (h, refl)

pub nobody_missing : (o : Option Entry) (h : Entry) → o ≡ some h → first_of (held_checks o) ≡ 0
unfolding held_checks
nobody_missing o h e = ap (λ o. first_of (held_checks o)) e

-- the one found under an id is found again, with its mark set
pub find_marked : (i : ℕ) (h : Entry) (hs : List Entry) → find i hs ≡ some h → (o : Entry) × (find i (map (mark i) hs) ≡ some o) × (o.cancelled ≡ true)
unfolding find
find_marked i h [] e = absurd (let z : ◌≡◌ {A = ℕ} 0 1 = cc in omega arith)
find_marked i h (x ∷ xs) e = go (eqb (entry_id x) i) e (find_marked i h xs)
  where
    go : (b : Bool) → cond b (some x) (find i xs) ≡ some h → (find i xs ≡ some h → (o : Entry) × (find i (map (mark i) xs) ≡ some o) × (o.cancelled ≡ true))
        → (o : Entry) × (cond b (some (record { event = x.event; begins = x.begins; held = cond b 0 x.held; cancelled = b || x.cancelled; choice = x.choice })) (find i (map (mark i) xs)) ≡ some o) × (o.cancelled ≡ true)
    go true e ih = (record { event = x.event; begins = x.begins; held = 0; cancelled = true; choice = x.choice }, refl, refl)
    go false e ih = ih e
