-- `decimal` meets its contract. The measure is the number. Assumes nothing.
use Rattle.listing.proofs.+decimal.Given as goal

abbrev pub decreases-decimal : goal.decreases-decimal
decreases-decimal l = l.n
