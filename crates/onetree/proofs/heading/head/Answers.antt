use Rattle.std.proofs.Common.{◌++◌, refl, subst, ap, ◌∙◌, inl, inr}
use Rattle.certdef.specs.Items.{size_line}
use Rattle.certdef.specs.Proofs.{ended}
use Rattle.onetree.specs.Certificates.{title}
use Rattle.onetree.specs.Readings.{BeginsWith}
use Rattle.onetree.proofs.CertificateLemmas.{stops_at_size, stops_at_bound}
use Rattle.onetree.proofs.heading.head.Goals as goal

pub returns-in_default-2-clause-refused : goal.returns-in_default-2-clause-refused
returns-in_default-2-clause-refused c = inl (refl, inr (stops_at_size c.args.n c.args.bytes.now c.in-Some.behind.now c.requires c.in-Some.ensures.some (rw c.in_default-2.is at c.in_ok-cities.ensures.none)))

pub returns-then-cities-n-clause-refused : goal.returns-then-cities-n-clause-refused
returns-then-cities-n-clause-refused c =
    let begins = rw c.in-Some-2.is at c.in_ok-cities.ensures.some in
    inr (refl, refl, (c.in-Some-2.cities, (c.in-Some-2.behind_size.now, begins.1, c.if-cities-n.true, c.in-Some.ensures.some ∙ ap (λ r. ended title ++ r) begins.0)))

pub returns-in_default-3-clause-refused : goal.returns-in_default-3-clause-refused
returns-in_default-3-clause-refused c =
    let begins = rw c.in-Some-2.is at c.in_ok-cities.ensures.some in
    let same = subst (λ k. BeginsWith c.args.n c.in-Some.behind.now (size_line k) c.in-Some-2.behind_size.now) c.if-cities-n.false begins in
    inl (refl, inr (stops_at_bound c.args.n c.args.bytes.now c.in-Some.behind.now c.in-Some-2.behind_size.now c.requires c.in-Some.ensures.some same (rw c.in_default-3.is at c.in_ok-bound.ensures.none)))
