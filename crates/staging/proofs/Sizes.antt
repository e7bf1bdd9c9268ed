-- What a change brings in has room in a block of its pool.
use Rattle.std.proofs.Common.{◌≡◌, ℕ, zero, suc, ◌≤◌, All, map, List, [], ◌∷◌, length, sym, subst, arith}
use Rattle.std.specs.Prelude.{Some, drop, slice_get}
use Rattle.prgr_core.proofs.Parts.{some_same}
use Rattle.term_core.specs.Plain.{plain}
use Rattle.term_core.proofs.ImageTerms.{length-image}
use Rattle.mod_core.specs.declared.code.Module.{Module}
use Rattle.mod_core.specs.Module.{IsModule}
use Rattle.mod_core.specs.ModuleImage.{module_image}
use Rattle.area_core.specs.Map.{room_of}
use Rattle.server_core.specs.declared.change.Change.{Change}
use Rattle.server_core.specs.declared.change.Change.TheVariants.{BringIn, HoldArea}
use Rattle.server_core.specs.Decided.{Fits}
use Rattle.server_core.specs.ServerState.{ServerState}
use Rattle.literal_areas.specs.Blocks.{first_of}
use Rattle.change_laws.specs.Changes.{Incoming, incoming, instance, stored}
use Rattle.change_laws.specs.Images.{words_of}
use Rattle.staging.specs.Placed.{pool_of}

-- an image with a serial in its first word is no longer
image_short : (serial : ℕ) (words : List ℕ) → length words ≤ 1024 → length (serial ∷ drop 1 words) ≤ 1024
image_short serial [] few = omega (arith)
image_short serial (word ∷ words) few = few

-- each of the modules that come in is a module
pub record IsInstance (i : Incoming) : Type 0 where
  pub m : Module
  pub is : i ≡ instance m
  pub sound : IsModule m

pub instance_at : (ms : List Module) → All IsModule ms → (at : ℕ) (i : Incoming) → slice_get (map instance ms) at ≡ Some i → IsInstance i
instance_at [] all at i e = absurd (cc)
instance_at (m ∷ ms) all zero i e = record { m = m; is = sym (some_same (instance m) i e); sound = all 0 m (omega (arith)) }
instance_at (m ∷ ms) all (suc at) i e = instance_at ms (λ k d few. all (suc k) d (omega (arith, few))) at i e

abbrev HasRoom : ℕ → Incoming → Type 0
HasRoom n i = length (words_of n i) ≤ room_of (first_of (pool_of i))

pub words_fit : (s : ServerState) (change : Change) → Fits s change → (at n : ℕ) (i : Incoming) → slice_get (incoming change) at ≡ Some i → length (words_of n i) ≤ room_of (first_of (pool_of i))
words_fit s (BringIn generation modules areas versions) fits at n i e =
    let found = instance_at modules.items fits.1.sound at i e in subst (HasRoom n) (sym found.is) (image_short n (module_image found.m) found.sound.short)
words_fit s (HoldArea generation key term kept areas keys retired) fits zero n i e =
    subst (HasRoom n) (some_same (stored (plain term)) i e) (let long = length-image (plain term) in let short = fits.1.short.short in omega (arith, long, short))
words_fit s change fits at n i e = absurd (cc)
