-- What is shown is written in some calls.
use Rattle.listing.proofs.Waiting.{Takes-printed}
use Rattle.listing.proofs.page.Page.print.Goals as goal

pub returns : goal.returns
returns g c = Takes-printed _ _ _ _ _ c.write-whole.ensures.writes c.drop_rest.ensures.kept c.drop_rest.ensures.dropped
