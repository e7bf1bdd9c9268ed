-- What callers see of the two ends of an inbox.
use Rattle.std.specs.Prelude.{◌≡◌, ◌++◌, ◌∷◌, [], ℕ, List, length, refl}
use Rattle.std.specs.Coded.{Coded, code_by, coded×, coded_ℕ, coded_list}

-- the end that posts: the number of its inbox, and all that was posted, oldest first
pub record Posting (T : Type 0) : Type 0 where
  pub number : ℕ
  pub put : List T

-- the end that takes: the number of its inbox, all that was taken, oldest first, and of what it was told that it was posted
pub record Taking (T : Type 0) : Type 0 where
  pub number : ℕ
  pub taken : List T
  pub told : List T

-- what the end that posts shows can be coded, as each value of a model must be
abbrev pub posting_code : {T : Type 0} → Coded T → Coded (Posting T)
posting_code {T} code = code_by (ℕ × List T) (coded× coded_ℕ (coded_list code)) (λ p. (p.number, p.put)) (λ p. record { number = p.0; put = p.1 }) (λ _. refl)

-- and so can what the end that takes shows
abbrev pub taking_code : {T : Type 0} → Coded T → Coded (Taking T)
taking_code {T} code =
    code_by
    (ℕ × (List T × List T))
    (coded× coded_ℕ (coded× (coded_list code) (coded_list code)))
    (λ t. (t.number, (t.taken, t.told)))
    (λ p. record { number = p.0; taken = p.1.0; told = p.1.1 })
    (λ _. refl)

module _ {T : Type 0} where
  -- the end that posts, once it has posted this
  abbrev pub posted : Posting T → T → Posting T
  posted p item = record p { put = p.put ++ item ∷ [] }

  -- the end that takes, once it has taken this
  abbrev pub took : Taking T → T → Taking T
  took t item = record t { taken = t.taken ++ item ∷ [] }

  -- the end that takes, once it was told that all this was posted
  abbrev pub heard : Taking T → List T → Taking T
  heard t put = record t { told = put }

  -- what was posted is what was taken, and then what is left, each once and in order; so many are left
  pub record IsSettled (put taken : List T) (count : ℕ) : Type 0 where
    pub left : List T
    pub whole : put ≡ taken ++ left
    pub counted : length left ≡ count
