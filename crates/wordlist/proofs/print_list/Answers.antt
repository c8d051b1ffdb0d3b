-- a block that is made leaves fewer lines
use Rattle.listing.specs.NextLaws.{made-block}
use Rattle.wordlist.proofs.print_list.Goals as goal

pub loop-made-smaller : goal.loop-made-smaller
loop-made-smaller g c = (made-block _ _ c.loop-made.unprinted _ _ _ c.in-Some.is c.next_block.ensures).1
