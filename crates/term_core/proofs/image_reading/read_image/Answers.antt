-- What is found among the first 64 words, or not found, is so of the block.
use Rattle.std.proofs.Common.{◌-◌, ℕ, List, length, take, drop, sym, ap, ◌∙◌}
use Rattle.term_core.specs.Image.{IsImageAt}
use Rattle.term_core.specs.Plain.{plain}
use Rattle.term_core.proofs.ImagePlaces.{term_at-is}
use Rattle.term_core.proofs.ImageReadings.{read_is, found_not, only_one, first_64}
use Rattle.term_core.proofs.image_reading.read_image.Goals as goal

-- where none is found, none is there
pub returns-in-None-clause-only : goal.returns-in-None-clause-only
returns-in-None-clause-only c = λ t h.
    let left : List ℕ = take (length c.args.words.now - c.args.at) (drop c.args.at c.args.words.now) in
    absurd (found_not c.args.words.now c.args.at (take c.min.result left) t (ap (λ n. take n left) c.min.ensures ∙ first_64 c.args.words.now c.args.at) (sym c.found_len.ensures ∙ c.in-None.is) h)

-- so that is the cause
pub returns-in-None-clause-cause : goal.returns-in-None-clause-cause
returns-in-None-clause-cause c = λ bad t h.
    let left : List ℕ = take (length c.args.words.now - c.args.at) (drop c.args.at c.args.words.now) in
    found_not c.args.words.now c.args.at (take c.min.result left) t (ap (λ n. take n left) c.min.ensures ∙ first_64 c.args.words.now c.args.at) (sym c.found_len.ensures ∙ c.in-None.is) h

-- what is read is there, and is the one
pub returns-in_ok-read_front-in-Some : goal.returns-in_ok-read_front-in-Some
returns-in_ok-read_front-in-Some c =
    let term = c.in_ok-read_front-in-Some.field-0 in
    let left : List ℕ = take (length c.args.words.now - c.args.at) (drop c.args.at c.args.words.now) in
    let stands : IsImageAt c.args.words.now c.args.at (plain term) =
    read_is c.args.words.now c.args.at c.in-Some.len (take c.min.result left) (plain term) (ap (λ n. take n left) c.min.ensures ∙ first_64 c.args.words.now c.args.at) (sym c.found_len.ensures ∙ c.in-Some.is) c.in_ok-read_front-in-Some.ensures in
    record {
      ok = stands;
      value = sym (term_at-is c.args.words.now c.args.at (plain term) stands);
      only = λ t h. only_one c.args.words.now c.args.at term t stands h;
      cause = λ bad. cc;
    }
