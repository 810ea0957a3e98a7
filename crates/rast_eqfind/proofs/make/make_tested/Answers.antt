use Rattle.rast_eqfind.proofs.Making.{made_serves}
use Rattle.rast_eqfind.proofs.make.make_tested.Goals as goal

pub returns-in_ok-refer_to_new-in-Serves : goal.returns-in_ok-refer_to_new-in-Serves
returns-in_ok-refer_to_new-in-Serves c =
    made_serves c.args.known.now c.args.equation c.args.place.now c.args.search.now c.refer_to_new.new.search c.args.test c.number_of-number.result c.in-Serves.is c.number_of-number.ensures
    c.in_ok-refer_to_new-in-Serves.ensures c.requires.search c.requires.room c.requires.equation
