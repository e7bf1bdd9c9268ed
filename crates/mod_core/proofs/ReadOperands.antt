-- What a word of an image is read as: the operand that it stands for.
use Rattle.std.proofs.Common.{◌≡◌, ℕ, ◌/◌, ◌%◌, ◌<◌, List, length, ap, arith}
use Rattle.term_core.specs.declared.term.Term.TheVariants.{Tuple, List as ListOf}
use Rattle.term_core.specs.Image.{IsImageAt}
use Rattle.term_core.specs.Plain.{plain, term_of}
use Rattle.term_core.specs.PlainTerm.{PlainTerm}
use Rattle.term_core.proofs.ImagePlaces.{within-at}
use Rattle.term_core.proofs.ImageTerms.{some_words}
use Rattle.term_core.proofs.PlainTerms.{term_of-plain}
use Rattle.mod_core.specs.declared.code.Operand.{Operand}
use Rattle.mod_core.specs.declared.code.Operand.TheVariants.{Const}
use Rattle.mod_core.specs.Decoding.{IsWordOf}

-- an image stands within the words
pub image_within : (words : List ℕ) (at : ℕ) (t : PlainTerm) → IsImageAt words at t → at < length words
image_within words at t h = omega (arith, within-at words at t h, some_words t)

-- the operand is the constant whose image stands at the place in a word
pub record IsConstantAt (words : List ℕ) (word : ℕ) (o : Operand) : Type 0 where
  pub term : PlainTerm
  pub image : IsImageAt words (word / 16) term
  pub operand_is : Const (term_of term) ≡ o

-- a word with the tag of a constant's place stands for one
pub constant_word : (words : List ℕ) (word : ℕ) (o : Operand) → word % 16 ≡ 5 → IsWordOf words word o → IsConstantAt words word o
constant_word words word (Const (Tuple ts)) tag is = record { term = plain (Tuple ts); image = is.1; operand_is = ap Const (term_of-plain (Tuple ts)) }
constant_word words word (Const (ListOf ts)) tag is = record { term = plain (ListOf ts); image = is.1; operand_is = ap Const (term_of-plain (ListOf ts)) }
constant_word words word o tag is = absurd (omega (arith, is.0))
