use Rattle.store_objects.proofs.PageNamings.{named_by_all}
use Rattle.store_objects.proofs.laws.each_page_is_named_as_often_as_it_counts.Goals as goal

pub returns : goal.returns
returns c = named_by_all
