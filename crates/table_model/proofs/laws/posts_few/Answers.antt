use Rattle.table_model.proofs.TouchedRecords.{posts_few}
use Rattle.table_model.proofs.laws.posts_few.Goals as goal

pub returns : goal.returns
returns c = posts_few
