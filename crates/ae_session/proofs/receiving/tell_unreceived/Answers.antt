use Rattle.std.proofs.Common.{inl, refl}
use Rattle.ae_session.proofs.Received.{of_command}
use Rattle.ae_session.proofs.receiving.tell_unreceived.Goals as goal

pub tell_why-requires : goal.tell_why-requires
tell_why-requires g c = record { of_command = of_command c.args.why c.requires c.in_default.not-SourceFault }

pub returns-in-SourceFault-clause-told : goal.returns-in-SourceFault-clause-told
returns-in-SourceFault-clause-told g c = rw c.in-SourceFault.is (record { meant = _; is_meant = inl refl; is_told = c.tell_input_fault.ensures.ends })
