-- What is known of a key stays known, whatever bucket is looked at besides.
use Rattle.std.proofs.Common.{◌≡◌, ℕ, zero, suc, ◌+◌, ◌%◌, ◌≤◌, true, Option, Some, None, is_some, inl, inr, refl, sym, ap, ◌∙◌, arith, rules}
use Rattle.std.proofs.lemmas.Bool.{cases_lt}
use Rattle.area_core.specs.declared.map.TheConstants.{BUCKETS}
use Rattle.area_core.specs.Map.{word_at}
use Rattle.area_core.specs.Blocks.{term_blocks_words}
use Rattle.area_core.specs.Terms.{look_at, looked}
use Rattle.area_core.proofs.Counted.{looked_suc}
use Rattle.area_core.proofs.terms.looked.Goals as goal

look_known : (block : ℕ → ℕ) (key bucket : ℕ) (known : Option (Option ℕ)) → is_some known ≡ true → look_at block key bucket known ≡ known
look_known block key bucket (Some known) e = refl
look_known block key bucket None e = absurd (cc)

looked_stays : (block : ℕ → ℕ) (key n m : ℕ) → n ≤ m → is_some (looked block key n) ≡ true → looked block key m ≡ looked block key n
looked_stays block key n zero most known = let same : zero ≡ n = omega (arith, most) in ap (looked block key) same
looked_stays block key n (suc m) most known =
    elim (cases_lt m n) as (λ _. looked block key (suc m) ≡ looked block key n) [
      | inl last ↦ let same : suc m ≡ n = omega (arith, most, last) in ap (looked block key) same
      | inr before ↦
          looked_suc block key m
          ∙ ap (look_at block key ((key % BUCKETS + m) % BUCKETS)) (looked_stays block key n m before known)
          ∙ look_known block key ((key % BUCKETS + m) % BUCKETS) (looked block key n) known
    ]

-- what is known before the bucket is known after all
pub returns-then-is_some : goal.returns-then-is_some
returns-then-is_some c =
    let below = c.loop-tried-test.true in
    let most : c.loop-tried.tried ≤ c.args.count = search rules in
    let some : is_some c.loop-tried.known ≡ true = search rules in
    c.loop-tried.invariant ∙ sym (looked_stays (term_blocks_words (word_at c.args.words.now) c.args.root) c.args.key c.loop-tried.tried c.args.count most (ap is_some (sym c.loop-tried.invariant) ∙ some))
