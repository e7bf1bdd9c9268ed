-- That a list of serials with room keeps its invariant where a serial goes in or is taken out.
use Rattle.std.proofs.Common.{◌≡◌, ◌∙◌, ℕ, refl, sym, ap, true, false, List, Result, Ok, Err, is_ok, IsOk, if◌then◌else◌, subst}
use Rattle.std.specs.List.{insert, remove}
use Rattle.machine_core.specs.Holds.{IsIncreasing, is_among, with_serial, without_serial}
use Rattle.machine_core.proofs.SerialLists.{increasing-with, increasing-without, place_among, with-at, without-at}

-- the list after an insertion that succeeded
given : {E : Type 0} (r : Result (Unit {0}) E) (old more : List ℕ) → IsOk r → (if is_ok r then more else old) ≡ more
given (Ok done) old more h = refl
given (Err refused) old more h = absurd (cc)

-- the list after an insertion at a serial's place
pub inserted : {E : Type 0} (r : Result (Unit {0}) E) (now old seen new : List ℕ) (place serial : ℕ) → old ≡ now → seen ≡ old → place ≡ place_among seen serial →
    is_among now serial ≡ false → IsOk r → new ≡ (if is_ok r then insert old place serial else old) → new ≡ with_serial now serial
inserted r now old seen new place serial o s p fresh ok e =
    let at : place ≡ place_among now serial = p ∙ ap (λ ns. place_among ns serial) (s ∙ o) in
    e ∙ given r old (insert old place serial) ok ∙ (ap (λ ns. insert ns place serial) o ∙ ap (λ k. insert now k serial) at) ∙ sym (with-at now serial fresh)

-- the list after a removal at a serial's place
pub taken_out : (now old seen new : List ℕ) (place serial : ℕ) → old ≡ now → seen ≡ old → place ≡ place_among seen serial → IsIncreasing now →
    is_among now serial ≡ true → new ≡ remove old place → new ≡ without_serial now serial
taken_out now old seen new place serial o s p i there e =
    let at : place ≡ place_among now serial = p ∙ ap (λ ns. place_among ns serial) (s ∙ o) in
    e ∙ (ap (λ ns. remove ns place) o ∙ ap (λ k. remove now k) at) ∙ sym (without-at now serial i there)

-- both keep the order
pub still_increasing : (now old new : List ℕ) (serial : ℕ) → old ≡ now → new ≡ with_serial now serial → IsIncreasing old → IsIncreasing new
still_increasing now old new serial o e i = subst IsIncreasing (sym e) (increasing-with now serial (subst IsIncreasing o i))

pub increasing_out : (now old new : List ℕ) (serial : ℕ) → old ≡ now → new ≡ without_serial now serial → IsIncreasing old → IsIncreasing new
increasing_out now old new serial o e i = subst IsIncreasing (sym e) (increasing-without now serial (subst IsIncreasing o i))
