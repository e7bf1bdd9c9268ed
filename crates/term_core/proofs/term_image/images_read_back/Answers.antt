-- By the words of an image.
use Rattle.term_core.proofs.ImagePlaces.{image_of-injective, term_at-is}
use Rattle.term_core.proofs.term_image.images_read_back.Goals as goal

-- which are read as its term
pub returns : goal.returns
returns c = record { one_term = image_of-injective; at_place = term_at-is }
