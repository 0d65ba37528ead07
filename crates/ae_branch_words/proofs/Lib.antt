mod Spelt
