-- The starred samples of the rules are one proved list.
use Rattle.starred.specs.Claims.{Starred}
use Rattle.starred.proofs.Disks.{sample1, sample2, sample3, sample4, sample5}
use Rattle.starred.proofs.Guids.{sample6}
use Rattle.starred.proofs.Layouts.{sample7, sample8}

pub starred : Starred
starred = (sample1, sample2, sample3, sample4, sample5, sample6, sample7, sample8)
