-- A C host sees the run by value: its image is at every step that of the schedule, which the next operation loads again.
use mathlib.Core.Path.{◌≡◌, refl, sym, ap, ◌∙◌, subst}
use mathlib.Core.Logic.{inl, inr}
use Prim.Native.Nat.{ℕ}
use mathlib.Core.Bool.{Bool, true, false, cond, and-eq-true_iff}
use mathlib.Core.List.{List, [], ◌∷◌, map}
use lib.Dec.{eqb}
use lib.ListN.{length}
use borrow.Author.Tests.{eq-eqb, eqb-true, eqb-false}
use Rattle.rules.specs.declared.Schedule.{Schedule}
use Rattle.rules.specs.Lists.{All}
use Rattle.rules.specs.Records.{view, fresh, pad}
use Rattle.rules.specs.Sound.{sound}
use Rattle.rules.specs.Calls.{program, event, cancellation, decision, question, Call, bare, set_clock, ask, list, does, accepts, accepted, refused, call, run}
use Rattle.rules.specs.Arrival.{after}
use Rattle.rules.specs.Image.{image_size, image, loaded, formed, imaged}
use Rattle.rules.specs.Face.{Operation, as_call, id_too_long, face, face_fresh}
use Rattle.rules.proofs.Tests.{both}
use Rattle.rules.proofs.ListLaws.{all_map}
use Rattle.rules.proofs.SoundState.{pad_view}
use Rattle.rules.proofs.CallLaws.{call_clauses}
use Rattle.rules.proofs.FaceLaws.{is_question, id_fits, face_clauses}
use Rattle.powercut.specs.PowerCut.{Fits, Lending, by_value, host_run, SeenByHost, HostRun}
use Rattle.powercut.proofs.Fitting.{Storable, storable_call, storable_fresh, storable_after, stored}

-- a question changes nothing
asked : (s : Schedule) → sound s ≡ true → (c : Call) → is_question c ≡ true → (call s c).state ≡ s
unfolding call does
asked s e (bare (program n p d)) q = both false q refl
asked s e (bare (event v)) q = both false q refl
asked s e (bare (cancellation i)) q = both false q refl
asked s e (bare (decision i out)) q = both false q refl
asked s e (bare (question c)) q = go (accepts s (ask c))
  where
    go : (b : Bool) → (cond b (accepted (does (view s) (ask c))) (refused s (ask c))).state ≡ s
    go true = pad_view s e
    go false = refl
asked s e (set_clock t b) q = both false q refl
asked s e (list r) q = both false q refl

module _ (lent : List ℕ) where
  -- only a question can lack room for an id
  questioned : (s : Schedule) → sound s ≡ true → (op : Operation) → id_too_long (call s (as_call op lent)).value (length lent) ≡ true
      → (call s (as_call op lent)).state ≡ s
  questioned s e op i = go (is_question (as_call op lent)) refl
    where
      go : (b : Bool) → is_question (as_call op lent) ≡ b → (call s (as_call op lent)).state ≡ s
      go true q = asked s e (as_call op lent) q
      go false q = both false (sym (id_fits s (as_call op lent) q (length lent)) ∙ i) refl

  -- on an image that is accepted, of the schedule in it
  seen_loaded : (l : List ℕ) → imaged l ≡ true → (op : Operation) → SeenByHost l (loaded l) op lent
  unfolding face imaged
  seen_loaded l a op = record {
    accepted = face_clauses.same l op lent a;
    refused = face_clauses.unchanged l op lent a;
    no_room = λ n i. (rw (a, n, i), questioned (loaded l) ((and-eq-true_iff (formed l) (sound (loaded l))).0 a).1 op i);
  }

  module _ (s : Schedule) (v : Storable s) (op : Operation) where
    seen : SeenByHost (image s) s op lent
    seen = let k = stored s v in subst (λ r. SeenByHost (image s) r op lent) k.back (seen_loaded (image s) k.accepted op)

    -- the image that an operation leaves is that of the schedule that the call leaves
    host_step : (face (image s) op lent).image ≡ image (call s (as_call op lent)).state
    host_step = go (eqb (call s (as_call op lent)).number 0) refl (id_too_long (call s (as_call op lent)).value (length lent)) refl
      where
        go : (b : Bool) → eqb (call s (as_call op lent)).number 0 ≡ b → (r : Bool) → id_too_long (call s (as_call op lent)).value (length lent) ≡ r
            → (face (image s) op lent).image ≡ image (call s (as_call op lent)).state
        go true n false i = ap (λ o. o.image) (seen.accepted (eqb-true _ 0 n) i)
        go true n true i = let q = seen.no_room (eqb-true _ 0 n) i in ap (λ o. o.image) q.0 ∙ ap image (sym q.1)
        go false n r i =
            let f = eqb-false (call s (as_call op lent)).number 0 n in
            ap (λ o. o.image) (seen.refused f) ∙ ap image (sym (call_clauses.unchanged s (as_call op lent) f).0)

host_run_lem : (xs : List Lending) → All (λ x. Fits (by_value x)) xs → (s : Schedule) → Storable s → host_run (image s) xs ≡ image (run s (map by_value xs))
unfolding host_run run
host_run_lem [] f s v = refl
host_run_lem (x ∷ xs) f s v =
    ap (λ l. host_run l xs) (host_step x.lent s v x.operation)
    ∙ host_run_lem xs (λ y m. f y (inr m)) (call s (by_value x)).state (storable_call s v (by_value x) (f x (inl refl)))

fresh_image : (b : List ℕ) → length b ≡ image_size → (face_fresh b).image ≡ image (pad fresh)
unfolding face_fresh
fresh_image b n = rw (eq-eqb (length b) image_size n)

pub host : (b : List ℕ) → length b ≡ image_size → (xs : List Lending) → All (λ x. Fits (by_value x)) xs → HostRun b xs
host b n xs f =
    let e = ap (λ l. host_run l xs) (fresh_image b n) ∙ host_run_lem xs f (pad fresh) storable_fresh in
    let cs = map by_value xs in
    record {
      image_after = e;
      next = λ op lent. subst (λ l. SeenByHost l (after cs) op lent) (sym e) (seen lent (after cs) (storable_after cs (all_map Fits by_value xs f)) op);
    }
