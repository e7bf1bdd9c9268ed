-- The term that the image's words stand for is the one that was given.
use Rattle.std.proofs.Common.{◌≡◌, ◌<◌, ap, sym, ◌∙◌}
use Rattle.term_core.specs.Image.{image_of, term_at}
use Rattle.term_core.specs.Plain.{plain}
use Rattle.term_core.specs.Written.{IsTermInteger}
use Rattle.term_core.proofs.ImagePlaces.{stands_alone, term_at-is}
use Rattle.term_core.proofs.LeafFacts.{EachLeaf-weaker}
use Rattle.server_core.proofs.stored_term.StoredTerm.new.Goals as goal

pub image-requires : goal.image-requires
image-requires c = EachLeaf-weaker IsTermInteger IsTermInteger (λ a. a < 4294967296) (λ a. Unit {0}) (λ z h. h) (λ a h. tt) (plain c.args.term.now) c.requires.fits

stands : (c : goal.In_ok-words) → term_at c.in_ok-words.words 0 ≡ plain c.args.term.now
stands c = ap (λ words. term_at words 0) c.in_ok-words.ensures ∙ term_at-is (image_of (plain c.args.term.now)) 0 (plain c.args.term.now) (stands_alone (plain c.args.term.now) c.requires.fits c.requires.short)

pub returns : goal.returns
returns c = stands c

pub invariant_of-result : goal.invariant_of-result
invariant_of-result c = c.in_ok-words.ensures ∙ ap image_of (sym (stands c))
