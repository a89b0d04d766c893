use Rattle.client_lang.proofs.wrong.+check_ops.Given as goal

abbrev pub decreases-check_ops : goal.decreases-check_ops
decreases-check_ops l = l.most
