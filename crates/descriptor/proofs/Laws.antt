use Rattle.std.proofs.Common.{◌≤◌, List, [], ◌∷◌, refl, arith}
use Rattle.std.proofs.lemmas.Bool.Decides.{nat_tests}
use Rattle.descriptor.specs.declared.Descriptor.{Descriptor}
use Rattle.descriptor.specs.Descriptors.{created, changed}
use Rattle.descriptor.specs.Laws.{Act, create, change, after, Laws}

-- a creation never lowers the number
rises : {T : Type 0} (d : Descriptor T) (x : T) → d.last ≤ (created d x).last
rises d x = grind (arith, nat_tests)

-- no act lowers the number
pub after_rises : {T : Type 0} (d : Descriptor T) (acts : List (Act T)) → d.last ≤ (after d acts).last
unfolding after
after_rises d [] = omega arith
after_rises d (create x ∷ acts) = omega (arith, rises d x, after_rises (created d x) acts)
after_rises d (change f n ∷ acts) = after_rises (changed f d n) acts

pub laws : {T : Type 0} → Laws T
laws {T} =
    record {
      first_number = λ first x h k. grind (arith, nat_tests);
      numbers_rise = λ d x n e. (grind (arith, nat_tests), grind (arith, nat_tests));
      numbers_left = λ d h. grind (arith, nat_tests);
      used_up = λ d x h. (grind (arith, nat_tests), grind (arith, nat_tests));
      newest_read = λ d x n e. grind (arith, nat_tests);
      others_overtaken = λ d x n m e h. grind (arith, nat_tests);
      stays_overtaken = λ d acts n h. let rise = after_rises d acts in grind (arith, nat_tests);
      stale = λ d f n h. (grind (arith, nat_tests), grind (arith, nat_tests), grind (arith, nat_tests));
      change_made = λ d f x n e. (grind (arith, nat_tests), grind (arith, nat_tests));
      number_kept = λ d f n. refl;
    }
