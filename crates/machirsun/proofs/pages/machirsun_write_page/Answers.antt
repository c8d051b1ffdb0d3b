-- `machirsun::machirsun_write_page` meets its contract: the answer is made flat.
use Rattle.machirsun.proofs.pages.machirsun_write_page.Goals as goal

pub returns : goal.returns
returns c = rw c.page_refusal.ensures c.write_page.ensures
