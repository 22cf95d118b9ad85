use Rattle.std.proofs.Common.{append_assoc}
use Rattle.page_texts.specs.PeriodPictures.{centre_columns}
use Rattle.page_texts.proofs.period_pictures.push_centre_columns.Goals as goal

pub returns : goal.returns
unfolding centre_columns
returns c =
    rw (c.push_str-2.ensures, c.push_credits_column.ensures, c.push_str.ensures) (simp append_assoc)
