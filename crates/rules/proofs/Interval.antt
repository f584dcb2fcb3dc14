-- Who holds a control from moment to moment: what holds at one moment (Holders) is all that the next can go on with, so an event holds in one interval.
use mathlib.Core.Path.{◌≡◌, refl, ap}
use mathlib.Core.Logic.{◌↔◌, ⊎_elim}
use Prim.Native.Nat.{ℕ, zero, suc, ◌<◌, ◌≤◌}
use native.Mathlib.Nat.{eq-or-lt_of_le}
use native.Mathlib.Omega.{arith}
use mathlib.Core.Bool.{Bool, true, false, cond, ◌||◌}
use mathlib.Core.List.{List, map}
use mathlib.Core.Option.{Option, none, some}
use lib.Dec.{ltb, leb, eqb}
use borrow.Author.Tests.{lt-leb, le-leb, le-ltb, eq-eqb, ne_eqb}
use Rattle.rules.specs.declared.Entry.{Entry}
use Rattle.rules.specs.declared.Program.{Program}
use Rattle.rules.specs.Lists.{In}
use Rattle.rules.specs.Records.{has}
use Rattle.rules.specs.Holding.{rank_of, claim, holding_at, end_of}
use Rattle.rules.specs.Schedules.{Timed, gone_by, holding, seen}
use Rattle.rules.specs.Clauses.{Holds, Free, Carries, ends, Standing, HoldingClauses}
use Rattle.rules.proofs.ListLaws.{in_map, map_in}
use Rattle.rules.proofs.Masks.{not_has, has_either}
use Rattle.rules.proofs.Ranks.{better_one}
use Rattle.rules.proofs.Claims.{claim_cancelled}
use Rattle.rules.proofs.Local.{holding_early, holding_ended}
use Rattle.rules.proofs.Holders.{if_held, holds, never_back}

-- What an entry claims: all at its start, later what it held.

claim_first : (t : ℕ) (h : Entry) → h.cancelled ≡ false → h.begins ≡ t → t < end_of h → claim t h ≡ h.event.controls
unfolding claim
claim_first t h e b l = rw (e, lt-leb (end_of h) t l, le-ltb t h.begins (omega arith), eq-eqb h.begins t b)

pub claim_later : (t : ℕ) (h : Entry) → h.cancelled ≡ false → h.begins < t → t < end_of h → claim t h ≡ h.held
unfolding claim
claim_later t h e b l = rw (e, lt-leb (end_of h) t l, le-ltb t h.begins (omega arith), ne_eqb h.begins t (omega arith))

claim_within : (t c : ℕ) (h : Entry) → (has h.held c ≡ true → has h.event.controls c ≡ true) → has (claim t h) c ≡ true → has h.event.controls c ≡ true
unfolding claim
claim_within t c h f = go (h.cancelled || leb (end_of h) t || ltb t h.begins) (eqb h.begins t)
  where
    go : (a b : Bool) → has (cond a 0 (cond b h.event.controls h.held)) c ≡ true → has h.event.controls c ≡ true
    go true b e = not_has 0 c refl e
    go false true e = e
    go false false e = f e

pub not_gone : (t : ℕ) (o : Option ℕ) → ((k : ℕ) → o ≡ some k → t < k) → gone_by t o ≡ false
not_gone t none s = refl
not_gone t (some k) s = lt-leb k t (s k refl)

module _ (ps : List Program) (ts : List Timed) where
  idle : {P : Type 0} (t c : ℕ) (x : Timed) → (holding ps ts t x).held ≡ 0 → Holds ps ts t c x → P
  idle t c x q e = not_has (holding ps ts t x).held c q e

  none_first : {P : Type 0} (c : ℕ) (x : Timed) → Holds ps ts 0 c x → P
  unfolding holding
  none_first c x e = idle 0 c x refl e

  -- From one moment to the next.

  module _ (t c : ℕ) (x : Timed) where
    seen_held : has (seen ps ts t x).held c ≡ true → Holds ps ts t c x
    seen_held e = has_either (gone_by t x.cancelled) (holding ps ts t x).held c e

    claimed : Holds ps ts (suc t) c x → has (claim (suc t) (seen ps ts t x)) c ≡ true
    unfolding holding holding_at
    claimed e = (if_held ps (suc t) (map (seen ps ts t) ts) c (seen ps ts t x) e).0

    -- it holds what it claims, unless a better event holds it
    next : In x ts → Holds ps ts (suc t) c x ↔ ((has (claim (suc t) (seen ps ts t x)) c ≡ true) × Free ps ts (suc t) c x)
    unfolding holding holding_at
    next m =
        let r = holds ps (suc t) (map (seen ps ts t) ts) c (seen ps ts t x) (map_in (seen ps ts t) x ts m) in (
          λ e. ((r.0 e).0, λ o n. (r.0 e).1 (seen ps ts t o) (map_in (seen ps ts t) o ts n)),
          λ e. r.1 (e.0, λ o n b d. let q = in_map (seen ps ts t) o ts n in e.1 q.0 q.1 (rw q.2 at b) (rw q.2 at d)),
        )

    -- after its start it holds only what it held a second before
    kept : x.begins ≤ t → Holds ps ts (suc t) c x → Holds ps ts t c x
    unfolding holding holding_at
    kept b e = seen_held (never_back ps (suc t) (map (seen ps ts t) ts) (seen ps ts t x) c (omega arith) e)

    from_start : In x ts → x.begins ≡ suc t → suc t < ends x → Standing (suc t) x → Carries c x → Holds ps ts (suc t) c x ↔ Free ps ts (suc t) c x
    from_start m b l s k = (
      λ e. ((next m).0 e).1,
      λ f. (next m).1 (rw (claim_first (suc t) (seen ps ts t x) (not_gone t x.cancelled s) b l) k, f),
    )

    until_better : In x ts → x.begins ≤ t → suc t < ends x → Standing (suc t) x → Holds ps ts (suc t) c x ↔ (Holds ps ts t c x × Free ps ts (suc t) c x)
    until_better m b l s = (
      λ e. (kept b e, ((next m).0 e).1),
      λ e. (next m).1 (rw (claim_later (suc t) (seen ps ts t x) gone (omega arith) l, gone) e.0, e.1),
    )
      where
        gone : gone_by t x.cancelled ≡ false
        gone = not_gone t x.cancelled s

  -- Over time.

  free : (t c : ℕ) (x : Timed) → In x ts → Holds ps ts t c x → Free ps ts t c x
  free zero c x m e = none_first c x e
  free (suc t) c x m e = ((next t c x m).0 e).1

  carries : (t c : ℕ) (x : Timed) → Holds ps ts t c x → Carries c x
  carries zero c x e = none_first c x e
  carries (suc t) c x e = claim_within (suc t) c (seen ps ts t x) (λ d. carries t c x (seen_held t c x d)) (claimed t c x e)

  pub begun : (t c : ℕ) (x : Timed) → Holds ps ts t c x → x.begins ≤ t
  begun t c x e = let n : t < x.begins → ⊥ = λ l. idle t c x (ap (λ k. k.held) (holding_early ps ts t x l)) e in omega arith

  pub not_after : (t c : ℕ) (x : Timed) → Holds ps ts t c x → t < ends x
  not_after t c x e = let n : ends x ≤ t → ⊥ = λ l. idle t c x (holding_ended ps ts t x l) e in omega arith

  not_cancelled : (t c : ℕ) (x : Timed) → Holds ps ts t c x → Standing t x
  not_cancelled zero c x e = none_first c x e
  not_cancelled (suc t) c x e = λ k q.
      let n : k ≤ t → ⊥ = λ l. not_has (claim (suc t) (seen ps ts t x)) c (claim_cancelled (suc t) (seen ps ts t x) (rw q (le-leb k t l))) (claimed t c x e) in
      omega arith

  back : (t u c : ℕ) (x : Timed) → x.begins ≤ t → t ≤ u → Holds ps ts u c x → Holds ps ts t c x
  back t zero c x b l e = none_first c x e
  back t (suc u) c x b l e = ⊎_elim (λ q. rw q e) (λ k. back t u c x b (omega arith) (kept u c x (omega arith) e)) (eq-or-lt_of_le l)

  -- from its start to the first of end, cancellation and a better holder
  goes_on : (t c : ℕ) (x : Timed) → In x ts → 0 < x.begins → Carries c x → x.begins ≤ t → t < ends x → Standing t x
      → ((u : ℕ) → x.begins ≤ u → u ≤ t → Free ps ts u c x) → Holds ps ts t c x
  goes_on zero c x m p k b l s f = absurd (omega arith)
  goes_on (suc t) c x m p k b l s f = ⊎_elim
      (λ q. (from_start t c x m q l s k).1 now)
      (λ q. (until_better t c x m (omega arith) l s).1 (goes_on t c x m p k (omega arith) (omega arith) sooner (λ u v w. f u v (omega arith)), now))
      (eq-or-lt_of_le b)
    where
      sooner : Standing t x
      sooner j r = omega (arith, s j r)

      now : Free ps ts (suc t) c x
      now = f (suc t) b (omega arith)

  interval : (t c : ℕ) (x : Timed) → In x ts → 0 < x.begins
      → Holds ps ts t c x ↔ (Carries c x × (x.begins ≤ t) × (t < ends x) × Standing t x × ((u : ℕ) → x.begins ≤ u → u ≤ t → Free ps ts u c x))
  interval t c x m p = (
    λ e. (carries t c x e, begun t c x e, not_after t c x e, not_cancelled t c x e, λ u v w. free u c x m (back u t c x v w e)),
    λ e. goes_on t c x m p e.0 e.1 e.2 e.3 e.4,
  )

  pub holding_clauses : HoldingClauses ps ts
  holding_clauses = record {
    from_start = from_start;
    until_better = until_better;
    not_before = λ t c x m e. (carries t c x e, begun t c x e);
    not_after = not_after;
    not_cancelled = not_cancelled;
    gone_at_once = λ t x e. rw e;
    never_back = λ t u c x m. back t u c x;
    interval = interval;
    one_holder = λ t c x y m n d e f.
        ⊎_elim (λ b. free t c y n f x m b e) (λ b. free t c x m e y n b f) (better_one (rank_of ps x.event) (rank_of ps y.event) d);
  }
