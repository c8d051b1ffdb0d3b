-- fewer lines are left after each block
use Rattle.listing.specs.Printing.{lines_left}
use Rattle.wordlist.proofs.print_list.Given as goal

abbrev pub decreases-loop-made : goal.decreases-loop-made
decreases-loop-made g l = lines_left l.unprinted
