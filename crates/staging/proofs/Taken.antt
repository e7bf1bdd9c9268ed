-- Areas are taken one after another: their serials, their blocks, and what those were before.
use Rattle.std.proofs.Common.{◌≡◌, ℕ, zero, suc, ◌+◌, inl, inr, List, [], ◌∷◌, ◌++◌, length, refl, sym, ap, ◌∙◌, arith}
use Rattle.std.specs.Prelude.{None, Some, slice_get}
use Rattle.term_core.specs.declared.area.AreaRef.{AreaRef}
use Rattle.literal_areas.specs.declared.areas.Areas.{Areas}
use Rattle.literal_areas.specs.declared.blocks.BlockUse.TheVariants.{Free, Live}
use Rattle.literal_areas.specs.Blocks.{Stands, serial_at, use_of, with_area}
use Rattle.literal_areas.proofs.Uses.{use_here, use_other}
use Rattle.literal_areas.proofs.Serials.{serial_here, serial_other, use_after}
use Rattle.staging.specs.Placed.{AreTaken, with_areas}

free_live : (n : ℕ) → Some (Live n) ≡ Some Free → ⊥
free_live n e = (cc)

-- ---- one more is taken

pub with_one_more : (taken : List AreaRef) (area : AreaRef) (pools : Areas) → with_areas (taken ++ area ∷ []) pools ≡ with_area area (with_areas taken pools)
with_one_more [] area pools = refl
with_one_more (a ∷ taken) area pools = with_one_more taken area (with_area a pools)

pub taken_more : (taken : List AreaRef) (area : AreaRef) (pools : Areas) → AreTaken taken pools → area.serial ≡ (with_areas taken pools).next → use_of (with_areas taken pools) area.block ≡ Some Free → AreTaken (taken ++ area ∷ []) pools
taken_more [] area pools were serial free = (serial, free, tt)
taken_more (a ∷ taken) area pools were serial free = (were.0, were.1, taken_more taken area (with_area a pools) were.2 serial free)

-- ---- serials

pub next_taken : (taken : List AreaRef) (pools : Areas) → (with_areas taken pools).next ≡ pools.next + length taken
next_taken [] pools = omega (arith)
next_taken (a ∷ taken) pools = let behind = next_taken taken (with_area a pools) in omega (arith, behind)

-- ---- blocks

-- a block that has a live area keeps it
pub live_stays : (taken : List AreaRef) (pools : Areas) (block n : ℕ) → AreTaken taken pools → use_of pools block ≡ Some (Live n) → use_of (with_areas taken pools) block ≡ Some (Live n)
live_stays [] pools block n were live = live
live_stays (a ∷ taken) pools block n were live =
    live_stays taken (with_area a pools) block n were.2 (use_other pools a.block block Free (Live a.serial) were.1 (λ same. free_live n (sym live ∙ ap (use_of pools) same ∙ were.1)) ∙ live)

-- so does one that has an area of any kind
pub stands_taken : (taken : List AreaRef) (pools : Areas) (a : AreaRef) → AreTaken taken pools → Stands pools a → Stands (with_areas taken pools) a
stands_taken [] pools a were stands = stands
stands_taken (b ∷ taken) pools a were stands =
    stands_taken taken (with_area b pools) a were.2 (serial_other pools b.block a.block Free (Live b.serial) were.1 (λ same. no_serial (sym (serial_here pools b.block Free were.1) ∙ ap (serial_at pools) (sym same) ∙ stands)) ∙ stands)
  where
    no_serial : None ≡ Some a.serial → ⊥
    no_serial e = (cc)

-- each that was taken is live
pub taken_live : (taken : List AreaRef) (pools : Areas) (i : ℕ) (area : AreaRef) → AreTaken taken pools → slice_get taken i ≡ Some area → use_of (with_areas taken pools) area.block ≡ Some (Live area.serial)
taken_live [] pools i area were there = absurd (cc)
taken_live (a ∷ taken) pools zero area were there =
    let same : a ≡ area = cc in
    ap (λ (x : AreaRef). use_of (with_areas taken (with_area a pools)) x.block) (sym same) ∙ live_stays taken (with_area a pools) a.block a.serial were.2 (use_here pools a.block Free (Live a.serial) were.1) ∙ ap (λ (x : AreaRef). Some (Live x.serial)) same
taken_live (a ∷ taken) pools (suc i) area were there = taken_live taken (with_area a pools) i area were.2 there

-- a block that is free still was free
pub was_free : (taken : List AreaRef) (pools : Areas) (block : ℕ) → AreTaken taken pools → use_of (with_areas taken pools) block ≡ Some Free → use_of pools block ≡ Some Free
was_free [] pools block were free = free
was_free (a ∷ taken) pools block were free =
    elim (use_after pools a.block block Free (Live a.serial) Free were.1 (was_free taken (with_area a pools) block were.2 free)) as (λ _. use_of pools block ≡ Some Free) [
      | inl here ↦ absurd (let same = here.1 in cc)
      | inr other ↦ other.1
    ]

-- so the block of a new area is none of theirs
pub apart_from : (taken : List AreaRef) (pools : Areas) (i : ℕ) (area new : AreaRef) → AreTaken taken pools → slice_get taken i ≡ Some area → use_of (with_areas taken pools) new.block ≡ Some Free → area.block ≡ new.block → ⊥
apart_from taken pools i area new were there free same =
    free_live area.serial (sym (taken_live taken pools i area were there) ∙ ap (use_of (with_areas taken pools)) same ∙ free)
