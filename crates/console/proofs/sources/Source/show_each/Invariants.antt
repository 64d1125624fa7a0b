use Rattle.console.proofs.sources.Source.show_each.Given as goal

abbrev pub decreases-loop-reader : goal.decreases-loop-reader
decreases-loop-reader g l = g.R.TextReader.left l.reader
