-- How many keys a table of buckets has.
use Rattle.std.proofs.Common.{◌≡◌, ◌≢◌, ℕ, zero, suc, ◌+◌, ◌-◌, ◌%◌, ◌<◌, ◌≤◌, cond, inl, inr, None, refl, sym, ap, ◌∙◌, arith}
use Rattle.std.specs.Prelude.{◌==◌}
use Rattle.std.proofs.lemmas.Bool.{eq-eqb, ne_eqb, cases_eq}
use Rattle.area_core.specs.Terms.{key_in, looked}
use Rattle.term_table.specs.Built.{held_in}
use Rattle.term_table.proofs.Searching.{IsPut, place_of, passed_full}

-- what a bucket with this word adds
abbrev pub one_of : ℕ → ℕ
one_of key = cond (key == 0) 0 1

pub one_full : (key : ℕ) → key ≢ 0 → one_of key ≡ 1
one_full key full = ap (λ t. cond t 0 1) (ne_eqb key 0 full)

pub one_empty : (key : ℕ) → key ≡ 0 → one_of key ≡ 0
one_empty key empty = ap (λ t. cond t 0 1) (eq-eqb key 0 empty)

pub held_none : (block : ℕ → ℕ) → held_in block 0 ≡ 0
unfolding held_in
held_none block = refl

pub held_suc : (block : ℕ → ℕ) (n : ℕ) → held_in block (suc n) ≡ held_in block n + one_of (key_in block n)
unfolding held_in
held_suc block n = refl

pub held_next : (block : ℕ → ℕ) (n : ℕ) → held_in block (n + 1) ≡ held_in block n + one_of (key_in block n)
held_next block n = let e : n + 1 ≡ suc n = omega (arith) in ap (held_in block) e ∙ held_suc block n

pub held_more : (block : ℕ → ℕ) (n : ℕ) → key_in block n ≢ 0 → held_in block (n + 1) ≡ held_in block n + 1
held_more block n full = let is = held_next block n in let one = one_full (key_in block n) full in omega (arith, is, one)

pub held_same : (block : ℕ → ℕ) (n : ℕ) → key_in block n ≡ 0 → held_in block (n + 1) ≡ held_in block n
held_same block n empty = let is = held_next block n in let one = one_empty (key_in block n) empty in omega (arith, is, one)

one_few : (key : ℕ) → one_of key ≤ 1
one_few key =
    elim (cases_eq key 0) as (λ _. one_of key ≤ 1) [
      | inl none ↦ let is = one_empty key none in omega (arith, is)
      | inr full ↦ let is = one_full key full in omega (arith, is)
    ]

-- no more than there are buckets
pub held_few : (block : ℕ → ℕ) (n : ℕ) → held_in block n ≤ n
held_few block zero = let is = held_none block in omega (arith, is)
held_few block (suc n) = let is = held_suc block n in let few = held_few block n in let one = one_few (key_in block n) in omega (arith, is, few, one)

-- tables with the same keys have as many
pub held_alike : (block after : ℕ → ℕ) (n : ℕ) → ((c : ℕ) → c < n → key_in after c ≡ key_in block c) → held_in after n ≡ held_in block n
held_alike block after zero same = held_none after ∙ sym (held_none block)
held_alike block after (suc n) same =
    let before = held_alike block after n (λ c low. same c (omega (arith, low))) in
    let last = ap one_of (same n (omega (arith))) in
    let one = held_suc after n in
    let two = held_suc block n in omega (arith, before, last, one, two)

all_full : (block : ℕ → ℕ) (n : ℕ) → ((c : ℕ) → c < n → key_in block c ≢ 0) → held_in block n ≡ n
all_full block zero full = held_none block
all_full block (suc n) full =
    let before = all_full block n (λ c low. full c (omega (arith, low))) in
    let last = one_full (key_in block n) (full n (omega (arith))) in
    let one = held_suc block n in omega (arith, before, last, one)

-- a search that passes all buckets is one in a full table
pub passed_all : (block : ℕ → ℕ) (key : ℕ) → looked block key 512 ≡ None → held_in block 512 ≡ 512
passed_all block key passed = all_full block 512 full
  where
    full : (c : ℕ) → c < 512 → key_in block c ≢ 0
    full c low empty =
        let i = (c + 512 - key % 512) % 512 in
        let few : i < 512 = omega (arith) in
        let is : place_of key i ≡ c = omega (arith, low) in
        passed_full block key 512 i passed few (ap (key_in block) is ∙ empty)

module _ (block after : ℕ → ℕ) (key value b : ℕ) (put : IsPut b key value block after) (empty : key_in block b ≡ 0) where
  held_under : (n : ℕ) → n ≤ b → held_in after n ≡ held_in block n
  held_under n most = held_alike block after n (λ c low. put.keys c (λ same. omega (arith, low, most, same)))

  held_over : (n : ℕ) → b < n → held_in after n ≡ held_in block n + 1
  held_over zero low = absurd (omega (arith, low))
  held_over (suc n) low =
      let one = held_suc after n in
      let two = held_suc block n in
      elim (cases_eq n b) as (λ _. held_in after (suc n) ≡ held_in block (suc n) + 1) [
        | inl same ↦ (
            let before = held_under n (omega (arith, same)) in
            let key_now : key_in after n ≡ key + 1 = ap (key_in after) same ∙ put.key_is in
            let now = one_full (key_in after n) (λ none. omega (arith, none, key_now)) in
            let was = one_empty (key_in block n) (ap (key_in block) same ∙ empty) in
            omega (arith, one, two, before, now, was))
        | inr differ ↦ (
            let before = held_over n (omega (arith, low, differ)) in
            let last = ap one_of (put.keys n differ) in
            omega (arith, one, two, before, last))
      ]

  -- one more key
  pub put_counted : b < 512 → held_in after 512 ≡ held_in block 512 + 1
  put_counted within = held_over 512 within
