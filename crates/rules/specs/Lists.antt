-- Lists: what passes a test, a place by ascending number, one list over the front of another, membership.
use Rattle.std.specs.Prelude.{◌≡◌, ◌↔◌, ◌⊎◌, ℕ, Bool, true, cond, ◌&&◌, List, [], ◌∷◌, ◌++◌, ltb, length, take, drop}

-- the elements that pass a test, in their order
abbrev pub keep : {A : Type 0} → (A → Bool) → List A → List A
keep p [] = []
keep p (x ∷ xs) = cond (p x) (x ∷ keep p xs) (keep p xs)

-- a put before the first element with a larger number
abbrev pub insert : {A : Type 0} → (A → ℕ) → A → List A → List A
insert number a [] = a ∷ []
insert number a (x ∷ xs) = cond (ltb (number a) (number x)) (a ∷ x ∷ xs) (x ∷ insert number a xs)

-- `new` written over the front of `old`
abbrev pub over : {A : Type 0} → List A → List A → List A
over new old = new ++ drop (length new) old

-- `new` written over what stands in `old` from `at` on
abbrev pub over_at : {A : Type 0} → ℕ → List A → List A → List A
over_at at new old = take at old ++ over new (drop at old)

-- whether each passes a test
abbrev pub each : {A : Type 0} → (A → Bool) → List A → Bool
each p [] = true
each p (x ∷ xs) = p x && each p xs

-- whether each passes a test with all that come after it
abbrev pub pairs : {A : Type 0} → (A → A → Bool) → List A → Bool
pairs r [] = true
pairs r (x ∷ xs) = each (r x) xs && pairs r xs

abbrev pub In : {A : Type 0} → A → List A → Type 0
In a [] = ⊥
In a (x ∷ xs) = (a ≡ x) ⊎ In a xs

-- two lists with the same members
abbrev pub Same : {A : Type 0} → List A → List A → Type 0
Same {A} xs ys = (a : A) → In a xs ↔ In a ys

-- each member has a property
abbrev pub All : {A : Type 0} → (A → Type 0) → List A → Type 0
All {A} P xs = (x : A) → In x xs → P x

-- each is related to all that come after it
abbrev pub Pairwise : {A : Type 0} → (A → A → Type 0) → List A → Type 0
Pairwise R [] = Unit {0}
Pairwise R (x ∷ xs) = All (R x) xs × Pairwise R xs
