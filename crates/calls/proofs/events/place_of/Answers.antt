-- The ids ascend, so that the answers of the search do. The event in its place bears the id, or none does.
use mathlib.Core.Path.{◌≡◌, refl, sym}
use mathlib.Core.Bool.{Bool, true, false}
use mathlib.Core.List.{List}
use Prim.Native.Nat.{ℕ, ◌<◌, ◌≤◌}
use native.Mathlib.Omega.{arith}
use borrow.Author.Tests.{ltb-true, ltb-false}
use borrow.Author.Rules.{rules}
use lib.Dec.{ltb}
use lib.ListN.{length, get_or}
use Rattle.std.specs.Prelude.{Result, Ok, Err}
use Rattle.std.specs.Ordering.{nat_cmp, ordering_index}
use Rattle.std.specs.List.Sorted.{IsSearchInRange, IsBinarySearchResult, IsNonDecreasingBy}
use Rattle.std.proofs.lemmas.Cmp.{ranked}
use Rattle.std.proofs.lemmas.Bool.Decides.{nat_tests}
use Rattle.std.proofs.lemmas.List.Sorted.{answers_always}
use Rattle.rules.specs.declared.Entry.{Entry}
use Rattle.rules.specs.Lists.{Pairwise}
use Rattle.rules.specs.Records.{no_entry}
use Rattle.rules.specs.Calls.{entry_id}
use Rattle.rules.proofs.SoundState.{ById, sound_view}
use Rattle.calls.specs.Found.{Found}
use Rattle.calls.proofs.Slots.{pairwise_at}
use Rattle.calls.proofs.events.place_of.Goals as goal

module _ (i : ℕ) (hs : List Entry) (s : Pairwise ById hs) where
  -- a greater number compares no lower
  higher : (a b : ℕ) → a ≤ b → ordering_index (nat_cmp a i) ≤ ordering_index (nat_cmp b i)
  higher a b l = grind (arith, nat_tests)

  -- the comparisons with the id rise along the events
  rise : IsNonDecreasingBy (λ h. ordering_index (nat_cmp (entry_id h) i)) hs
  rise j k d l m = go (ltb j k) refl
    where
      go : (b : Bool) → ltb j k ≡ b → ordering_index (nat_cmp (entry_id (get_or hs j d)) i) ≤ ordering_index (nat_cmp (entry_id (get_or hs k d)) i)
      go true q = higher _ _ (omega (arith, pairwise_at ById d hs s j k (ltb-true j k q) m))
      go false q = let z : j ≡ k = omega (arith, ltb-false j k q) in rw z (omega arith)

  -- so a search ends at the event with the id, or at the place for it
  found : (r : Result ℕ ℕ) → IsSearchInRange r (length hs) → IsBinarySearchResult (λ h. nat_cmp (entry_id h) i) hs r → Found hs i r
  found (Ok at) l equal =
      let same : entry_id (get_or hs at no_entry) ≡ i = ranked _ i _ (sym (equal no_entry)) in
      record {
        placed = record { within = omega (arith, l); below = λ k m. omega (arith, same, pairwise_at ById no_entry hs s k at m l); from = λ m. omega (arith, same) };
        within = l;
        same = same;
      }
  found (Err at) l parted =
      let above : at < length hs → i < entry_id (get_or hs at no_entry) = λ m. ranked _ i _ (sym ((parted rise).1 at no_entry (omega arith) m)) in
      record {
        placed = record { within = l; below = λ k m. ranked _ i _ (sym ((parted rise).0 k no_entry (omega arith) m)); from = λ m. omega (arith, above m) };
        none = λ m e. omega (arith, above m, e);
      }

pub returns : goal.returns
returns c =
    let s = c.args.s.now in
    let searched = c.binary_search_by_key.ensures in
    let is = c.events.ensures in
    let by_id = searched.position (λ h. h.event.id) (answers_always _ _ _ (λ f a r g called. search rules)) in
    found _ _ (sound_view s.schedule s.good).ids _ (rw is at searched.bound) (rw is at by_id)
