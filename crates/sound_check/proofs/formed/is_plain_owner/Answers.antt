use Rattle.sound_check.proofs.formed.is_plain_owner.Goals as goal

pub returns-in-None : goal.returns-in-None
returns-in-None c = ((λ t. cc), (λ h. absurd (c.in-None.ensures h.0 h.2 h.3)))
