use Rattle.dw_ctype.proofs.typed.+under.Given as goal

abbrev pub decreases-under : goal.decreases-under
decreases-under l = l.steps
