mod Stocked
