-- The theorem of the three laws. It stands on the definitions that the entry points' contracts name, and assumes nothing.
use Rattle.promise.specs.Promise.{after, started}
use Rattle.laws.specs.Laws.{Laws}
use Rattle.promise.proofs.Sounds.{runs_fit}
use Rattle.laws.proofs.LawsCells.{all_split}
use Rattle.laws.proofs.LawsLevels as levels
use Rattle.laws.proofs.LawsBoats as boats

pub laws : Laws
laws s g store e cs =
    record {
      smooths = levels.smooths s g store e cs;
      splits = all_split s g store e cs;
      commutes = boats.commutes (after cs (started s g store)) (runs_fit s g store e cs);
    }
