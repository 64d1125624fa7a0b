use Rattle.models.proofs.Tried.{tried}
use Rattle.models.proofs.Exact.{exact}
use Rattle.models.proofs.Small.{one_of_two, small_shows}
use Rattle.models.proofs.small_models_suffice.Goals as goal

pub returns : goal.returns
returns c = record { small_shows = small_shows; one_of_two = one_of_two; exact = exact; tried = tried }
