use Rattle.std.proofs.Common.{inl, inr}
use Rattle.sepsub.proofs.UnionLemmas.{all_of_both, some_of_both}
use Rattle.sepsub.proofs.unions.lesser.Goals as goal

pub returns-then-other-one-clause-candidate : goal.returns-then-other-one-clause-candidate
returns-then-other-one-clause-candidate c =
    let one = c.requires.one in
    let other = c.requires.other in
    let e = c.in_ok-append.ensures.items in
    record {
      cities = other.cities;
      proper = other.proper;
      home = other.home;
      crossed = other.crossed;
      sets = all_of_both c.args.x.now c.args.one.sets.items c.args.other.sets.items c.append.new.self.items e one.sets other.sets;
      some = λ h. some_of_both c.args.one.sets.items c.args.other.sets.items c.append.new.self.items e (inr (other.some h));
    }

pub returns-clause-candidate : goal.returns-clause-candidate
returns-clause-candidate c =
    let one = c.requires.one in
    let other = c.requires.other in
    let e = c.in_ok-append.ensures.items in
    record {
      cities = one.cities;
      proper = one.proper;
      home = one.home;
      crossed = one.crossed;
      sets = all_of_both c.args.x.now c.args.one.sets.items c.args.other.sets.items c.append.new.self.items e one.sets other.sets;
      some = λ h. some_of_both c.args.one.sets.items c.args.other.sets.items c.append.new.self.items e (inl (one.some h));
    }
